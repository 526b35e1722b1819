use Rattle.std.proofs.Common.{◌≡◌, ◌≢◌, ℕ, true, List, [], ◌∷◌, refl}
use Rattle.std.specs.Prelude.{Some}
use Rattle.aho_core.specs.MatchList.{matches_of, own_matches}
use Rattle.aho_core.specs.Patterns.{Patterns}
use Rattle.aho_core.specs.Failure.{is_leftmost}
use Rattle.aho_laws.proofs.ByLinks.{matches-linked, matches-next, matches-own, matches-root}
use Rattle.aho_laws.proofs.Kept.{other_than_standard}
use Rattle.aho_laws.proofs.Listed.{own-has, own-listed, own-member}
use Rattle.aho_laws.proofs.trie.lists_read_literally.Goals as goal

pub returns-clause-own : goal.returns-clause-own
returns-clause-own c = λ p word number. (
  (λ member. let t = own-member p word number member in record { numbered = t.0; kept = t.1; same = t.2 }),
  (λ own. own-has p word number own.numbered own.kept own.same),
)

pub returns-clause-by_number : goal.returns-clause-by_number
returns-clause-by_number c = λ p word. own-listed p word

-- a list that is not empty has a first element
some_own : (p : Patterns) (byte : ℕ) (word own : List ℕ) → is_leftmost p.kind ≡ true → own_matches p (byte ∷ word) ≡ own → own ≢ [] → matches_of p (Some (byte ∷ word)) ≡ own_matches p (byte ∷ word)
some_own p byte word [] leftmost e some = absurd (some refl)
some_own p byte word (k ∷ ks) leftmost e some = matches-own p byte word k ks leftmost e

pub returns-clause-leftmost_own : goal.returns-clause-leftmost_own
returns-clause-leftmost_own c = λ p byte word other some. some_own p byte word (own_matches p (byte ∷ word)) (other_than_standard p.kind other) refl some

pub returns-clause-leftmost_linked : goal.returns-clause-leftmost_linked
returns-clause-leftmost_linked c = λ p byte word other none. matches-linked p byte word none

pub returns-clause-standard : goal.returns-clause-standard
returns-clause-standard c = λ p byte word is. matches-next p byte word

pub returns-clause-root : goal.returns-clause-root
returns-clause-root c = λ p. matches-root p
