-- What a rule is, and to which lines it applies.
use Rattle.std.specs.Prelude.{◌≡◌, ◌⊎◌, ◌<◌, ℕ, List, [], ◌∷◌, map, option_map, string_bytes, unwrap_or, true}
use Rattle.aho_core.specs.Listing.{IsMember}
use Rattle.aho_core.specs.Occurrence.{Occurrence}
use Rattle.aho_core.specs.Occurs.{OccursIn}
use Rattle.aho_core.specs.Patterns.{Patterns}
use Rattle.aho_core.specs.Search.{plain_search}
use Rattle.aho_core.specs.declared.search.MatchKind.TheVariants.{Standard}
use Rattle.secret_rules.specs.Expressions.{IsExpression, group_total}
use Rattle.secret_rules.specs.declared.rule.Rule.{Rule}

-- its keywords, its expression, and the text up to which it marks, as bytes; none is the empty text
abbrev pub keywords_of : Rule → List (List ℕ)
keywords_of rule = map string_bytes rule.keywords.items

abbrev pub regex_of : Rule → List ℕ
regex_of rule = string_bytes rule.regex

abbrev pub until_of : Rule → List ℕ
until_of rule = unwrap_or (option_map string_bytes rule.until) []

-- keywords are searched for with ASCII letters the same in both cases
abbrev pub keyword_patterns : List (List ℕ) → Patterns
keyword_patterns words = record { words = words; kind = Standard; ignore_case = true }

-- a keyword occurs in a line
abbrev pub KeywordOccurs : List ℕ → List ℕ → Type 0
KeywordOccurs line keyword = (m : Occurrence) × OccursIn (keyword_patterns (keyword ∷ [])) (plain_search line) m

-- a rule applies to a line: it has no keywords, or one of them occurs in the line
abbrev pub AppliesTo : Rule → List ℕ → Type 0
AppliesTo rule line =
    (keywords_of rule ≡ []) ⊎ ((keyword : List ℕ) × IsMember (keywords_of rule) keyword × KeywordOccurs line keyword)

-- what each rule of a list has to be: its keywords are not empty, its text is an expression, and this has the group that the rule names
pub record IsSoundRule (rule : Rule) : Type 0 where
  pub keywords : IsMember (keywords_of rule) [] → ⊥
  pub expression : IsExpression (regex_of rule)
  pub group : rule.secret_group < group_total (regex_of rule)

-- each of some rules is so
abbrev pub AreSound : List Rule → Type 0
AreSound rules = (rule : Rule) → IsMember rules rule → IsSoundRule rule
