-- What is searched for. Every definition that speaks of patterns takes this one record.
use Rattle.std.specs.Prelude.{ℕ, List, [], Bool, length, slice_index_or}
use Rattle.std.specs.List.{range_with_len}
use Rattle.aho_core.specs.declared.search.MatchKind.{MatchKind}

-- the words, how one of several matches is chosen, and whether ASCII letters are the same in both cases
pub record Patterns : Type 0 where
  pub words : List (List ℕ)
  pub kind : MatchKind
  pub ignore_case : Bool

-- the pattern of this number
abbrev pub pattern_at : Patterns → ℕ → List ℕ
pattern_at p number = slice_index_or p.words number []

-- the numbers of the patterns, from 0 on
abbrev pub numbers : Patterns → List ℕ
numbers p = range_with_len 0 (length p.words)
