-- The fields of a record.
use Rattle.std.specs.Prelude.{ℕ, ◌-◌, Bool, false, ◌||◌, ◌==◌, List, [], ◌∷◌, length, take, drop}
use Rattle.std.specs.List.{prefix_len, suffix_len}
use Rattle.csv.specs.Machine.{ends_with}
use Rattle.csv.specs.declared.parser.Terminator.TheVariants as term

-- a space or a tab
abbrev pub is_space : ℕ → Bool
is_space byte = byte == 32 || byte == 9

-- a field without the spaces and tabs at its start
abbrev pub start_trimmed : List ℕ → List ℕ
start_trimmed field = drop (prefix_len is_space field) field

-- a field without those at its end
abbrev pub end_trimmed : List ℕ → List ℕ
end_trimmed field = take (length field - suffix_len is_space field) field

-- a field without those at its two ends
abbrev pub trimmed : List ℕ → List ℕ
trimmed field = end_trimmed (start_trimmed field)

-- whether a byte ends a line
abbrev pub is_line_end : ℕ → Bool
is_line_end byte = ends_with term.CRLF byte

-- whether a byte ends a field that has no quotes
abbrev pub ends_field : ℕ → ℕ → Bool
ends_field separator byte = byte == separator || is_line_end byte

-- whether a quote begins the text
abbrev pub is_quoted : List ℕ → Bool
is_quoted [] = false
is_quoted (byte ∷ rest) = byte == 34
