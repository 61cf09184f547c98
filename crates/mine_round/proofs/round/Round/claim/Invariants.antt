use Rattle.mine_round.proofs.round.Round.claim.Given as goal

abbrev pub ghosts-claim_number : goal.ghosts-claim_number
ghosts-claim_number a = record { pieces = a.words.now.shared.key.pieces }
