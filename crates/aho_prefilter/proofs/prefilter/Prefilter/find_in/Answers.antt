use Rattle.std.proofs.Common.{◌≡◌, ◌+◌, ℕ, List, length, ap, refl, subst, ◌∙◌}
use Rattle.std.specs.Prelude.{Some, None}
use Rattle.aho_core.specs.Occurrence.{occurrence}
use Rattle.aho_prefilter.specs.Finding.{FindsFirst, answer_at}
use Rattle.aho_prefilter.specs.declared.prefilter.Candidate.TheVariants.{Match, PossibleStartOfMatch, None as Nothing}
use Rattle.aho_prefilter.specs.declared.prefilter.Searcher.{Searcher}
use Rattle.aho_prefilter.specs.declared.prefilter.Searcher.TheVariants.{Memmem, Memchr, Memchr2, Memchr3, Packed, PackedHeads, Windows, Strided}
use Rattle.aho_prefilter.proofs.Found.{FindsFirst-candidate}
use Rattle.aho_prefilter.proofs.prefilter.Prefilter.find_in.Goals as goal

-- a search for bytes answers that a match may start
possible : (searcher : Searcher) (place : ℕ) → ((needle : List ℕ) → searcher ≡ Memmem needle → ⊥) → PossibleStartOfMatch place ≡ answer_at searcher place
possible (Memmem needle) place other = absurd (other needle refl)
possible (Memchr x) place other = refl
possible (Memchr2 x y) place other = refl
possible (Memchr3 x y z) place other = refl
possible (Packed packed) place other = refl
possible (PackedHeads search) place other = refl
possible (Windows windows) place other = refl
possible (Strided marks) place other = refl

pub returns-in_default : goal.returns-in_default
returns-in_default c =
    let finds : FindsFirst c.self.inside.searcher c.args.haystack.now c.args.span.start c.args.span.end Nothing =
    record { at = None; first = rw c.in_default.is at c.find.ensures.first; is = refl } in
    let given = subst (λ (s : Searcher). FindsFirst s c.args.haystack.now c.args.span.start c.args.span.end Nothing) c.self.view_is finds in
    record { candidate = λ p of. FindsFirst-candidate p c.args.haystack.now c.args.span.start c.args.span.end c.requires.ordered c.requires.within c.args.self.now _ of given; first = given }

pub returns-in_default-searcher : goal.returns-in_default-searcher
returns-in_default-searcher c =
    let place = c.args.span.start + c.in-Some.at in
    let finds : FindsFirst c.self.inside.searcher c.args.haystack.now c.args.span.start c.args.span.end (PossibleStartOfMatch place) = record {
      at = Some c.in-Some.at;
      first = rw c.in-Some.is at c.find.ensures.first;
      is = possible c.self.inside.searcher place c.in_default-searcher.not-Memmem;
    } in
    let given = subst (λ (s : Searcher). FindsFirst s c.args.haystack.now c.args.span.start c.args.span.end (PossibleStartOfMatch place)) c.self.view_is finds in
    record { candidate = λ p of. FindsFirst-candidate p c.args.haystack.now c.args.span.start c.args.span.end c.requires.ordered c.requires.within c.args.self.now _ of given; first = given }

pub returns : goal.returns
returns c =
    let place = c.args.span.start + c.in-Some.at in
    let made : c.new.result ≡ occurrence place (place + length c.in-Memmem.needle) 0 =
    c.new.ensures.made
    ∙ ap (λ (k : ℕ). occurrence place (place + c.len.result) k) c.new_unchecked-pattern.ensures.value
    ∙ ap (λ (n : ℕ). occurrence place (place + n) 0) c.len.ensures.len in
    let finds : FindsFirst c.self.inside.searcher c.args.haystack.now c.args.span.start c.args.span.end (Match c.new.result) = record {
      at = Some c.in-Some.at;
      first = rw c.in-Some.is at c.find.ensures.first;
      is = rw c.in-Memmem.is (ap Match made);
    } in
    let given = subst (λ (s : Searcher). FindsFirst s c.args.haystack.now c.args.span.start c.args.span.end (Match c.new.result)) c.self.view_is finds in
    record { candidate = λ p of. FindsFirst-candidate p c.args.haystack.now c.args.span.start c.args.span.end c.requires.ordered c.requires.within c.args.self.now _ of given; first = given }
