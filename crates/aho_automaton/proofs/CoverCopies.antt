-- The copy of a haystack whose runs are replaced, from one run to the next; and what an iterator over runs gives.
use Rattle.std.proofs.Common.{◌≡◌, inl, ℕ, ◌+◌, ◌<◌, ◌≤◌, min, List, [], ◌∷◌, ◌++◌, drop, length, refl, sym, ◌∙◌, ap, subst, arith, append_assoc, length-append}
use Rattle.std.specs.Prelude.{Option, Some, None, slice_get, slice_range}
use Rattle.aho_core.specs.Listing.{IsMember}
use Rattle.aho_core.specs.Occurrence.{Occurrence}
use Rattle.aho_core.specs.Patterns.{Patterns}
use Rattle.aho_core.specs.Replacement.{replaced_by, replaced_from}
use Rattle.aho_laws.specs.CoverLaws.{AreInOrder}
use Rattle.aho_laws.proofs.SettledRuns.{in_order-last}
use Rattle.aho_laws.proofs.TextRuns.{upto-covers}
use Rattle.aho_automaton.specs.Covering.{runs_in}
use Rattle.aho_automaton.specs.CoverIters.{GivesRun, HasGivenRuns, automaton_in, haystack_in}
use Rattle.aho_automaton.specs.declared.automaton.Automaton.{Ghosts as Automata}
use Rattle.aho_automaton.specs.declared.cover.CoverIter.{CoverIter}

-- what stands behind a front
rest-next : {X : Type 0} (front rest : List X) (x : X) → Some x ≡ slice_get (front ++ rest) (length front) → (later : List X) × (rest ≡ x ∷ later)
rest-next [] [] x e = cc
rest-next [] (y ∷ rest) x e = (rest, (let same : y ≡ x = cc in ap (λ z. z ∷ rest) same))
rest-next (z ∷ front) rest x e = rest-next front rest x e

rest-none : {X : Type 0} (front rest : List X) → None ≡ slice_get (front ++ rest) (length front) → rest ≡ []
rest-none [] [] e = refl
rest-none [] (y ∷ rest) e = cc
rest-none (z ∷ front) rest e = rest-none front rest e

pub runs-in_order : (p : Patterns) (haystack : List ℕ) → AreInOrder (runs_in p haystack) (length haystack)
runs-in_order p haystack = (upto-covers p haystack (length haystack) (omega arith)).ordered

-- n runs were replaced, the haystack was copied up to a place, and the rest makes the whole
pub record IsLeftToCopy (all : List Occurrence) (haystack : List ℕ) (piece : Occurrence → List ℕ) (n copied : ℕ) (dst old : List ℕ) : Type 0 where
  pub front : List Occurrence
  pub rest : List Occurrence
  pub whole : all ≡ front ++ rest
  pub counted : length front ≡ n
  pub behind : (x : Occurrence) → IsMember rest x → copied ≤ x.start
  pub bytes : dst ++ replaced_from haystack copied rest piece ≡ old ++ replaced_by haystack all piece

module _ (all : List Occurrence) (haystack : List ℕ) (piece : Occurrence → List ℕ) (ordered : AreInOrder all (length haystack)) (old : List ℕ) where
  abbrev Left : ℕ → ℕ → List ℕ → Type 0
  Left n copied dst = IsLeftToCopy all haystack piece n copied dst old

  pub left-begun : Left 0 0 old
  left-begun = record { front = []; rest = all; whole = refl; counted = refl; behind = λ x there. omega arith; bytes = refl }

  module _ (n copied : ℕ) (dst : List ℕ) (left : Left n copied dst) where
    rest-ordered : AreInOrder left.rest (length haystack)
    rest-ordered = in_order-last left.front left.rest (length haystack) (subst (λ (runs : List Occurrence). AreInOrder runs (length haystack)) left.whole ordered)

    there : (given : Option Occurrence) → given ≡ slice_get all n → given ≡ slice_get (left.front ++ left.rest) (length left.front)
    there given is = is ∙ ap (λ (runs : List Occurrence). slice_get runs n) left.whole ∙ ap (slice_get (left.front ++ left.rest)) (sym left.counted)

    -- where the next run lies
    pub next-within : (run : Occurrence) → Some run ≡ slice_get all n → (copied ≤ run.start) × (run.start < run.end) × (run.end ≤ length haystack)
    next-within run is =
        let next = rest-next left.front left.rest run (there (Some run) is) in
        let here : IsMember left.rest run = subst (λ (runs : List Occurrence). IsMember runs run) (sym next.1) (inl refl) in
        (left.behind run here, rest-ordered.full run here, rest-ordered.within run here)

    -- and what is left behind it
    pub left-next : (run : Occurrence) → Some run ≡ slice_get all n → Left (min (n + 1) (length all)) run.end ((dst ++ slice_range haystack copied run.start) ++ piece run)
    left-next run is =
        let next = rest-next left.front left.rest run (there (Some run) is) in
        let in_order : AreInOrder (run ∷ next.0) (length haystack) = subst (λ (runs : List Occurrence). AreInOrder runs (length haystack)) next.1 rest-ordered in
        let front = left.front ++ run ∷ [] in
        let whole : all ≡ front ++ next.0 = left.whole ∙ ap (λ (runs : List Occurrence). left.front ++ runs) next.1 ∙ sym (append_assoc left.front (run ∷ []) next.0) in
        let gap = slice_range haystack copied run.start in
        let after = replaced_from haystack run.end next.0 piece in
        record {
          front = front;
          rest = next.0;
          whole = whole;
          counted = omega (arith, length-append left.front (run ∷ []), left.counted, ap length whole, length-append front next.0);
          behind = λ x later. omega (arith, in_order.in_order.0 x later);
          bytes = append_assoc (dst ++ gap) (piece run) after
              ∙ append_assoc dst gap (piece run ++ after)
              ∙ sym (ap (λ (runs : List Occurrence). dst ++ replaced_from haystack copied runs piece) next.1)
              ∙ left.bytes;
        }

    -- behind the last the rest is copied
    pub left-none : None ≡ slice_get all n → dst ++ drop copied haystack ≡ old ++ replaced_by haystack all piece
    left-none is = sym (ap (λ (runs : List Occurrence). dst ++ replaced_from haystack copied runs piece) (rest-none left.front left.rest (there None is))) ∙ left.bytes

module _ {A : Type 0} (automata : Automata A) (automaton : A) (haystack : List ℕ) (p : Patterns) (of : automata.is_of automaton p) where
  -- an iterator over this automaton and haystack has given n runs
  pub record HasGivenOver (it : CoverIter A) (n : ℕ) : Type 0 where
    pub same_automaton : automaton_in it ≡ automaton
    pub same_haystack : haystack_in it ≡ haystack
    pub given : HasGivenRuns automata it p n

  pub gives-next : (it it' : CoverIter A) (given : Option Occurrence) (n : ℕ) → GivesRun automata it given it' → HasGivenOver it n
      → (given ≡ slice_get (runs_in p haystack) n) × HasGivenOver it' (min (n + 1) (length (runs_in p haystack)))
  gives-next it it' given n gives h =
      let still : automata.is_of (automaton_in it) p = subst (λ (a : A). automata.is_of a p) (sym h.same_automaton) of in (
        gives.given_is p n still h.given ∙ ap (λ (text : List ℕ). slice_get (runs_in p text) n) h.same_haystack,
        record {
          same_automaton = gives.over.same_automaton ∙ h.same_automaton;
          same_haystack = gives.over.same_haystack ∙ h.same_haystack;
          given = subst (λ (text : List ℕ). HasGivenRuns automata it' p (min (n + 1) (length (runs_in p text)))) h.same_haystack (gives.goes_on p n still h.given);
        },
      )
