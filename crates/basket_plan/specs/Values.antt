-- What the options' values mean, and the plan that they make.
use Rattle.std.specs.Prelude.{List, [], ◌∷◌, ℕ, Bool, false, codes, if◌then◌else◌, option_and_then, option_map, unwrap_or, Option, Some, None}
use Rattle.std.specs.Str.{bytes_eq}
use Rattle.std.specs.Str.Parse.{digits_value, without_leading_plus}
use Rattle.clap.specs.Words.{Row, Text, first_of, one_of}
use Rattle.clap.specs.ValueTests.{is_unsigned_in}
use Rattle.basket_sets.specs.Minimum.{minimum_of}
use Rattle.basket_sets.specs.Share.{share_of}
use Rattle.basket_sets.specs.declared.minimum.Minimum.{Minimum}
use Rattle.basket_plan.specs.Plan.{Counting, GREATEST_LIMIT, Planned, Question, is_separator}
use Rattle.basket_plan.specs.declared.plan.TheConstants.{MOST_PIECES, MOST_WORKERS}
use Rattle.basket_plan.specs.declared.layout.Layout.{Layout}
use Rattle.basket_plan.specs.declared.plan.Ask.{Ask}
use Rattle.basket_plan.specs.declared.plan.Ask.TheVariants.{Items, Sets, Closed, Maximal, Rules}
use Rattle.basket_plan.specs.declared.layout.Form.{Form}
use Rattle.basket_plan.specs.declared.layout.Form.TheVariants.{Fimi, Baskets, Single, Counts, CsvCounts}
use Rattle.basket_plan.specs.declared.plan.Miner.{Miner}
use Rattle.basket_plan.specs.declared.plan.Miner.TheVariants.{Apriori, Eclat, EclatDiff, EclatBits, FpGrowth}

abbrev pub miner_of : Text → Option Miner
miner_of text =
    if bytes_eq text (codes "apriori") then Some Apriori
    else (if bytes_eq text (codes "eclat") then Some Eclat
    else (if bytes_eq text (codes "eclat-diff") then Some EclatDiff
    else (if bytes_eq text (codes "eclat-bits") then Some EclatBits
    else (if bytes_eq text (codes "fpgrowth") then Some FpGrowth else None))))

abbrev pub form_of : Text → Option Form
form_of text =
    if bytes_eq text (codes "fimi") then Some Fimi
    else (if bytes_eq text (codes "baskets") then Some Baskets
    else (if bytes_eq text (codes "single") then Some Single
    else (if bytes_eq text (codes "counts") then Some Counts
    else (if bytes_eq text (codes "csv-counts") then Some CsvCounts else None))))

-- the path of the file of a name: none for `-`, which is standard input
abbrev pub origin_of : Text → Option Text
origin_of text = if bytes_eq text (codes "-") then None else Some text

-- a separator that stands for itself
abbrev pub separator_itself : Text → Option ℕ
separator_itself (byte ∷ []) = if is_separator byte then Some byte else None
separator_itself _ = None

-- the byte of a separator
abbrev pub separator_of : Text → Option ℕ
separator_of text =
    if bytes_eq text (codes "comma") then Some 44
    else (if bytes_eq text (codes "semicolon") then Some 59
    else (if bytes_eq text (codes "tab") then Some 9
    else (if bytes_eq text (codes "pipe") then Some 124 else separator_itself text)))

-- the number that one or more digits write, maybe after a plus, from 1 to the greatest
abbrev pub number_of : ℕ → Text → Option ℕ
number_of most text = if is_unsigned_in 1 most text then Some (digits_value 10 (without_leading_plus text)) else None

-- what the option's value among the matches says
abbrev pub min_in : List Row → Option Minimum
min_in rows = option_and_then minimum_of (first_of (codes "min") rows)

abbrev pub miner_in : List Row → Option Miner
miner_in rows = option_and_then miner_of (first_of (codes "miner") rows)

abbrev pub form_in : List Row → Option Form
form_in rows = option_and_then form_of (first_of (codes "form") rows)

-- the path of the file that an option names, if it names one
abbrev pub origin_in : Text → List Row → Option Text
origin_in name rows = option_and_then origin_of (first_of name rows)

abbrev pub sep_in : List Row → Option ℕ
sep_in rows = option_and_then separator_of (first_of (codes "sep") rows)

-- whether a flag is given
abbrev pub flag_in : Text → List Row → Bool
flag_in name rows = unwrap_or (option_map (λ text. bytes_eq text (codes "true")) (first_of name rows)) false

abbrev pub number_in : Text → ℕ → List Row → Option ℕ
number_in name most rows = option_and_then (number_of most) (one_of name rows)

abbrev pub limit_in : List Row → Option ℕ
limit_in rows = number_in (codes "limit") GREATEST_LIMIT rows

abbrev pub workers_in : List Row → Option ℕ
workers_in rows = number_in (codes "workers") MOST_WORKERS rows

abbrev pub pieces_in : List Row → Option ℕ
pieces_in rows = number_in (codes "pieces") MOST_PIECES rows

abbrev pub conf_in : List Row → Option (ℕ × ℕ)
conf_in rows = option_and_then share_of (first_of (codes "conf") rows)

-- what the command of a name asks for: rules are asked for with a confidence
abbrev pub ask_in : Text → List Row → Option Ask
ask_in name rows =
    if bytes_eq name (codes "items") then Some Items
    else (if bytes_eq name (codes "sets") then Some Sets
    else (if bytes_eq name (codes "closed") then Some Closed
    else (if bytes_eq name (codes "maximal") then Some Maximal
    else (if bytes_eq name (codes "rules") then option_map Rules (conf_in rows) else None))))

-- how the input is written
abbrev pub layout_of_rows : List Row → Option Layout
layout_of_rows rows =
    option_and_then (λ form.
    option_map (λ separator. record { form = form; separator = separator; header = flag_in (codes "header") rows; weighted = flag_in (codes "weight") rows })
    (sep_in rows))
    (form_in rows)

-- what a command with the matches of its options asks of an input
abbrev pub question_of_rows : Layout → Text → List Row → Option Question
question_of_rows layout name rows =
    option_and_then (λ minimum.
    option_and_then (λ ask.
    option_map (λ limit. record { ask = ask; minimum = minimum; limit = limit; layout = layout })
    (limit_in rows))
    (ask_in name rows))
    (min_in rows)

-- how many workers share the work, and how many pieces it is cut into
abbrev pub work_of_rows : List Row → Option (ℕ × ℕ)
work_of_rows rows = option_and_then (λ workers. option_map (λ pieces. (workers, pieces)) (pieces_in rows)) (workers_in rows)

-- the plan of a command with the matches of its options: none if an option's value can't be read
abbrev pub plan_of_rows : Text → List Row → Option Planned
plan_of_rows name rows =
    option_and_then (λ layout.
    option_and_then (λ miner.
    option_and_then (λ question.
    option_map (λ work. record { question = question; miner = miner; workers = work.0; pieces = work.1 })
    (work_of_rows rows))
    (question_of_rows layout name rows))
    (miner_in rows))
    (layout_of_rows rows)

-- the plan of `count` with the matches of its options
abbrev pub count_plan_of_rows : List Row → Option Counting
count_plan_of_rows rows =
    option_and_then (λ layout.
    option_map (λ work. record { layout = layout; workers = work.0; pieces = work.1 })
    (work_of_rows rows))
    (layout_of_rows rows)
