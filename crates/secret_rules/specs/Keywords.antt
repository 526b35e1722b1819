-- The keywords of all rules, and which rule each is of.
use Rattle.std.specs.Prelude.{◌≡◌, ◌⊎◌, ◌+◌, ◌++◌, ◌==◌, ℕ, Bool, List, [], ◌∷◌, flat_map, map, slice_index, vec_len}
use Rattle.aho_core.specs.Occurrence.{Occurrence}
use Rattle.aho_core.specs.Patterns.{Patterns}
use Rattle.secret_rules.specs.Rules.{keyword_patterns, keywords_of}
use Rattle.secret_rules.specs.declared.rule.Rule.{Rule}

-- of each keyword of some rules the number of its rule, where they are numbered from this one on
abbrev pub owners_from : ℕ → List Rule → List ℕ
owners_from number [] = []
owners_from number (rule ∷ rules) = map (λ _. number) rule.keywords.items ++ owners_from (number + 1) rules

-- what the searcher of some rules searches for
abbrev pub all_keywords : List Rule → Patterns
all_keywords rules = keyword_patterns (flat_map keywords_of rules)

-- whether a rule has no keywords
abbrev pub is_always : Rule → Bool
is_always rule = vec_len rule.keywords == 0

-- one of these occurrences is of a keyword of the rule of this number
abbrev pub HasOwner : List ℕ → List Occurrence → ℕ → Type 0
HasOwner owners [] number = ⊥
HasOwner owners (m ∷ ms) number = (slice_index owners m.pattern ≡ number) ⊎ HasOwner owners ms number
