use Rattle.std.specs.Prelude.{◌≡◌, ℕ, List, slice_index}

-- the first byte is a quote
abbrev pub BeginsWithQuote : List ℕ → Type 0
BeginsWithQuote bytes = slice_index bytes 0 ≡ 34
