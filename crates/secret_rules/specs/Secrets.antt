-- Which part of a match a rule marks.
use Rattle.std.specs.Prelude.{ℕ, ◌-◌, List, [], ◌∷◌, ◌==◌, map, Option, None, Some, nat_lt, if◌then◌else◌, option_and_then, unwrap_or}
use Rattle.std.specs.List.{range_with_len}
use Rattle.std.specs.Option.{option_or}
use Rattle.regex.specs.Patterns.{Match, find_all, span}
use Rattle.regex.specs.Writes.{group_of}
use Rattle.secret_rules.specs.Expressions.{expression_of, group_total}

-- a range that is not empty
abbrev pub if_filled : ℕ × ℕ → Option (ℕ × ℕ)
if_filled range = if nat_lt range.0 range.1 then Some range else None

-- the range of a group, if the group took part in the match and its range is not empty
abbrev pub filled_group : Match → ℕ → Option (ℕ × ℕ)
filled_group m number = option_and_then if_filled (group_of m number)

-- the first of some groups that has such a range
abbrev pub first_filled : Match → List ℕ → Option (ℕ × ℕ)
first_filled m [] = None
first_filled m (number ∷ numbers) = option_or (filled_group m number) (first_filled m numbers)

-- the range of the group that a rule names, if it names one: 0 names none
abbrev pub named_in : ℕ → Match → Option (ℕ × ℕ)
named_in named m = if named == 0 then None else filled_group m named

-- the range of the secret in a match: of the group that the rule names; else of the first group; each only where the group took
-- part and is not empty; else of the whole match
abbrev pub secret_in : ℕ → ℕ → Match → ℕ × ℕ
secret_in named count m = unwrap_or (option_or (named_in named m) (first_filled m (range_with_len 1 (count - 1)))) (span m)

-- the ranges of the secrets in a line: of each match of the expression, from the left
abbrev pub secrets_in : List ℕ → ℕ → List ℕ → List (ℕ × ℕ)
secrets_in source named line = map (secret_in named (group_total source)) (find_all (expression_of source) line)

-- the ranges of the matches themselves
abbrev pub match_ranges : List ℕ → List ℕ → List (ℕ × ℕ)
match_ranges source line = map span (find_all (expression_of source) line)
