-- What the states of one block tell, from a walk over its bytes and those behind it.
use Rattle.std.proofs.Common.{◌≡◌, ◌⊎◌, inl, inr, ℕ, ◌+◌, ◌-◌, ◌<◌, ◌≤◌, List, length, drop, reverse, take, ◌∙◌, ap, subst, arith}
use Rattle.std.specs.Prelude.{slice_range}
use Rattle.std.proofs.lemmas.List.{drop-drop, drop-take}
use Rattle.aho_core.specs.declared.search.Anchored.TheVariants.{No}
use Rattle.aho_core.specs.Laws.{Reads, longest}
use Rattle.aho_core.specs.Patterns.{Patterns}
use Rattle.aho_laws.proofs.SpanTexts.{length_part}
use Rattle.aho_automaton.specs.declared.automaton.Automaton.{Ghosts as Automata}
use Rattle.aho_backward.specs.Backward.{AreHeldBack, IsTurnedFrom, TellsBlock, state_back}
use Rattle.aho_backward.specs.Turned.{turned}
use Rattle.aho_backward.proofs.Telling.{one_length_each, tells}

-- the rest of a part from a place of it on
pub part-rest : (haystack : List ℕ) (at place seen : ℕ) → at ≤ place → place ≤ seen → drop (place - at) (slice_range haystack at seen) ≡ slice_range haystack place seen
part-rest haystack at place seen low high =
    let x = place - at in
    let count : seen - at ≡ x + (seen - place) = omega arith in
    let there : at + x ≡ place = omega arith in
    ap (λ (n : ℕ). drop x (take n (drop at haystack))) count
    ∙ drop-take x (seen - place) (drop at haystack)
    ∙ ap (take (seen - place)) (drop-drop x at haystack)
    ∙ ap (λ (n : ℕ). take (seen - place) (drop n haystack)) there

pub block-tells : {A : Type 0} (G : Automata A) (a : A) (given : List ℕ) (p : Patterns) (from : IsTurnedFrom G a given p)
    → Reads (turned p given) (G.kind a) (G.lengths a) (G.held a (turned p given)) (G.list a) (G.dead a) (G.starts a)
    → (haystack : List ℕ) (at end seen : ℕ) (states : List ℕ) → at ≤ end → end ≤ seen → seen ≤ length haystack → (seen ≡ length haystack) ⊎ (end + longest (G.lengths a) ≤ seen)
    → AreHeldBack G a (slice_range haystack at seen) states → TellsBlock G a given (record { start = at; end = end }) states p haystack
block-tells G a given p from laws haystack at end seen states low mid high far held =
    let long : length (slice_range haystack at seen) ≡ seen - at = length_part haystack at seen high in
    record {
      leftmost = from.leftmost;
      full = from.full;
      one_each = one_length_each G a given p from laws;
      within = omega (arith, mid, high);
      covers = omega (arith, long, held.one_each);
      tells = λ place after before.
          let inside : place - at < length (slice_range haystack at seen) = omega (arith, long) in
          let sid = state_back states (place - at) in
          let reach : (seen ≡ length haystack) ⊎ (place + longest (G.lengths a) ≤ seen) = elim far [ inl last ↦ inl last | inr further ↦ inr (omega (arith, further)) ] in
          tells G a given p from laws haystack place seen (omega arith) high reach sid (held.valid (place - at) inside)
          (subst (λ (w : List ℕ). G.held a (turned p given) No (reverse w) sid) (part-rest haystack at place seen after (omega arith)) (held.held (turned p given) from.of (place - at) inside));
    }
