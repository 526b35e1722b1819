-- What may be wrong with rules, and why a line is not marked.
use Rattle.std.specs.Prelude.{◌≡◌, ◌≤◌, ℕ, List, [], Some, String, slice_get, take, flat_map}
use Rattle.std.specs.declared.alloc.Global.{Global}
use Rattle.aho_core.specs.Listing.{IsMember}
use Rattle.aho_build.specs.Settings.{default_settings}
use Rattle.chromesquid.specs.Building.{IsFailureOf}
use Rattle.secret_rules.specs.Expressions.{IsExpression, LiesIn, group_total}
use Rattle.secret_rules.specs.Rules.{AreSound, keyword_patterns, keywords_of, regex_of}
use Rattle.secret_rules.specs.declared.error.MarkError.{MarkError}
use Rattle.secret_rules.specs.declared.error.MarkError.TheVariants as mark
use Rattle.secret_rules.specs.declared.error.RulesError.{RulesError}
use Rattle.secret_rules.specs.declared.error.RulesError.TheVariants as rules
use Rattle.secret_rules.specs.declared.rule.Rule.{Rule}
use Rattle.secret_rules.specs.declared.rule.RuleFault.{RuleFault}
use Rattle.secret_rules.specs.declared.rule.RuleFault.TheVariants.{EmptyKeyword, Regex, UnknownGroup}
use Rattle.std.specs.Prelude.{true}

-- this is wrong with the rule; the place of what is wrong with its expression lies in its text
abbrev pub IsFaultOf : Rule → RuleFault → Type 0
IsFaultOf rule EmptyKeyword = IsMember (keywords_of rule) []
IsFaultOf rule (Regex error) = ¬ (IsExpression (regex_of rule)) × LiesIn (regex_of rule) error
IsFaultOf rule UnknownGroup = IsExpression (regex_of rule) × (group_total (regex_of rule) ≤ rule.secret_group)

-- it is wrong with the rule of this number, and nothing is with those before
pub record IsFirstFault (rules : List Rule) (number : ℕ) (fault : RuleFault) : Type 0 where
  pub rule : Rule
  pub numbered : slice_get rules number ≡ Some rule
  pub wrong : IsFaultOf rule fault
  pub before : AreSound (take number rules)

-- the same, and the rule has this name
pub record IsNamedFault (rules : List Rule) (number : ℕ) (id : String Global) (fault : RuleFault) : Type 0 where
  pub rule : Rule
  pub numbered : slice_get rules number ≡ Some rule
  pub named : id ≡ rule.id
  pub wrong : IsFaultOf rule fault
  pub before : AreSound (take number rules)

-- why no searcher is built for some keywords
abbrev pub IsKeywordFailure : List (List ℕ) → RulesError → Type 0
IsKeywordFailure words (rules.Rule number id fault) = ⊥
IsKeywordFailure words (rules.Keywords error) = IsFailureOf (record default_settings { ignore_case = true }) (keyword_patterns words) error
IsKeywordFailure words rules.OutOfMemory = Unit {0}

-- why some rules are none
abbrev pub IsRulesFailure : List Rule → RulesError → Type 0
IsRulesFailure given (rules.Rule number id fault) = IsNamedFault given number id fault
IsRulesFailure given (rules.Keywords error) =
    IsFailureOf (record default_settings { ignore_case = true }) (keyword_patterns (flat_map keywords_of given)) error
IsRulesFailure given rules.OutOfMemory = Unit {0}

-- why a rule does not mark a line: its expression is too big, or memory ran out
abbrev pub IsMarkFailure : ℕ → MarkError → Type 0
IsMarkFailure number (mark.TooBig told) = told ≡ number
IsMarkFailure number mark.OutOfMemory = Unit {0}
