-- What some rules are held with.
use Rattle.std.specs.Prelude.{◌≡◌, ◌↔◌, ℕ, Bool, IsTrue, List, length, map, true}
use Rattle.aho_core.specs.Listing.{IsMember}
use Rattle.aho_core.specs.declared.search.Anchored.TheVariants.{No}
use Rattle.aho_core.specs.declared.search.MatchKind.TheVariants.{Standard}
use Rattle.chromesquid.specs.Searcher.{Answers, IsBuiltFrom, Searcher, match_kind_of}
use Rattle.secret_rules.specs.Keywords.{all_keywords, is_always, owners_from}
use Rattle.secret_rules.specs.Rules.{AreSound}
use Rattle.secret_rules.specs.declared.rule.Rule.{Rule}

-- nothing is wrong with the rules, this searcher searches for all their keywords, each has room for its expression, and it is known of
-- each whether it has no keywords, and whether there is such a one
pub record IsSearchedBy (rules : List Rule) (searcher : Searcher) (owners : List ℕ) (flags : List Bool) (always : Bool) (room : ℕ) : Type 0 where
  pub sound : AreSound rules
  pub of : IsBuiltFrom searcher (all_keywords rules)
  pub kind : match_kind_of searcher ≡ Standard
  pub starts : Answers searcher No
  pub owned : owners ≡ owners_from 0 rules
  pub room_for_all : room ≡ length rules
  pub flagged : flags ≡ map is_always rules
  pub some_always : IsTrue always ↔ IsMember (map is_always rules) true
