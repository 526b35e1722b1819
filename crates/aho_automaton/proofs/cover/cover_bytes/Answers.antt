-- From one run to the next, and behind the last.
use Rattle.std.proofs.Common.{◌≡◌, ℕ, ◌+◌, ◌<◌, ◌≤◌, ◌++◌, List, [], Some, None, length, min, refl, ap, ◌∙◌, arith}
use Rattle.std.specs.declared.alloc.AllocError.{AllocError}
use Rattle.std.specs.Prelude.{Err, Ok, OnOk, Result, if◌then◌else◌, is_ok, slice_index_or, slice_range}
use Rattle.std.proofs.lemmas.List.{take_rest}
use Rattle.aho_core.specs.Replacement.{pieces_of}
use Rattle.aho_automaton.specs.Covering.{runs_in}
use Rattle.aho_automaton.proofs.CoverCopies.{gives-next, left-begun, left-next, left-none, next-within, runs-in_order}
use Rattle.aho_automaton.proofs.cover.cover_bytes.Given.{Over}
use Rattle.aho_automaton.proofs.cover.cover_bytes.Goals.{In-Some}
use Rattle.aho_automaton.proofs.cover.cover_bytes.Goals as goal

-- where the run lies that was given
lies : (g : Over) (c : In-Some g) → (c.loop-run.copied ≤ c.in-Some.run'.start) × (c.in-Some.run'.start < c.in-Some.run'.end) × (c.in-Some.run'.end ≤ length c.args.haystack.now)
lies g c =
    let a = g.A.Automaton in
    let stands = c.requires.can.stands in
    let left = c.loop-run.invariant.left stands.0 stands.2 in
    let next = gives-next a c.args.runs.walk.automaton.now c.args.haystack.now stands.0 stands.2 c.loop-run.run-iterator c.next.new.self (Some c.in-Some.run') left.0 c.in-Some.ensures.steps left.1 in
    next-within (runs_in stands.0 c.args.haystack.now) c.args.haystack.now (λ m. slice_index_or (pieces_of c.args.pieces.now) m.pattern []) (runs-in_order stands.0 c.args.haystack.now) c.args.dst.now.items
    left.0 c.loop-run.copied c.loop-run.dst.items left.2 c.in-Some.run' next.0

pub loop-run-init : goal.loop-run-init
loop-run-init g c =
    let same = c.into_iter-run-iterator.ensures.into_iter_gives in
    record {
      can_next = rw same c.requires.can;
      is_finite = tt;
      within = omega arith;
      left = λ p of. (
        0,
        rw same (record { same_automaton = refl; same_haystack = c.requires.over; given = c.requires.fresh p of }),
        left-begun (runs_in p c.args.haystack.now) c.args.haystack.now (λ m. slice_index_or (pieces_of c.args.pieces.now) m.pattern []) (runs-in_order p c.args.haystack.now) c.args.dst.now.items,
      );
    }

pub slice_bounds-gap-count : goal.slice_bounds-gap-count
slice_bounds-gap-count g c =
    let l = lies g (goal.at.slice_bounds-gap-count g c).In-Some in
    omega (arith, l, c.start-start.ensures.start)

pub slice_bounds-gap-start : goal.slice_bounds-gap-start
slice_bounds-gap-start g c =
    let l = lies g (goal.at.slice_bounds-gap-start g c).In-Some in
    let low : c.loop-run.copied ≤ c.start-start.result = omega (arith, l, c.start-start.ensures.start) in
    low

pub slice_bounds-gap-end : goal.slice_bounds-gap-end
slice_bounds-gap-end g c =
    let l = lies g (goal.at.slice_bounds-gap-end g c).In-Some in
    let high : c.start-start.result ≤ length c.args.haystack.now = omega (arith, l, c.start-start.ensures.start) in
    high

pub loop-run-preserved : goal.loop-run-preserved
loop-run-preserved g c =
    let a = g.A.Automaton in
    let automaton = c.args.runs.walk.automaton.now in
    let haystack = c.args.haystack.now in
    let run = c.in-Some.run' in
    let l = lies g (goal.at.loop-run-preserved g c).In-Some in
    let piece = slice_index_or (pieces_of c.args.pieces.now) run.pattern [] in
    let gap : c.extend_from_slice.new.self.items ≡ c.loop-run.dst.items ++ slice_range haystack c.loop-run.copied run.start =
    c.in_ok-extend_from_slice.ensures.items ∙ ap (λ (k : ℕ). c.loop-run.dst.items ++ slice_range haystack c.loop-run.copied k) c.start-start.ensures.start in
    let copied : c.append_piece.new.dst.items ≡ (c.loop-run.dst.items ++ slice_range haystack c.loop-run.copied run.start) ++ piece =
    c.in_ok-_goes_on.ensures.appended ∙ ap (λ (bytes : List ℕ). bytes ++ piece) gap in
    record {
      can_next = c.in-Some.ensures.goes.keeps;
      is_finite = tt;
      within = omega (arith, l, c.end-end.ensures.end);
      left = λ p of.
          let left = c.loop-run.invariant.left p of in
          let next = gives-next a automaton haystack p of c.loop-run.run-iterator c.next.new.self (Some run) left.0 c.in-Some.ensures.steps left.1 in
          let later = left-next (runs_in p haystack) haystack (λ m. slice_index_or (pieces_of c.args.pieces.now) m.pattern []) (runs-in_order p haystack) c.args.dst.now.items left.0 c.loop-run.copied c.loop-run.dst.items left.2 run next.0 in
          (min (left.0 + 1) (length (runs_in p haystack)), next.1, rw (c.end-end.ensures.end, copied) later);
    }

-- an append that succeeds
on-ok : (r : Result (Unit {0}) AllocError) (new dst part whole : List ℕ) → new ≡ (if is_ok r then dst ++ part else dst) → dst ++ part ≡ whole → OnOk r (new ≡ whole)
on-ok (Ok done) new dst part whole e f = e ∙ f
on-ok (Err reason) new dst part whole e f = tt

pub returns : goal.returns
returns g c = record {
  covered = λ p of.
      let haystack = c.args.haystack.now in
      let left = c.loop-run.invariant.left p of in
      let next = gives-next g.A.Automaton c.args.runs.walk.automaton.now haystack p of c.loop-run.run-iterator c.next.new.self None left.0 c.in-None.ensures.steps left.1 in
      let whole = left-none (runs_in p haystack) haystack (λ m. slice_index_or (pieces_of c.args.pieces.now) m.pattern []) (runs-in_order p haystack) c.args.dst.now.items left.0 c.loop-run.copied c.loop-run.dst.items left.2 next.0 in
      on-ok c.extend_from_slice-2.result c.extend_from_slice-2.new.self.items c.loop-run.dst.items _ _ c.extend_from_slice-2.ensures.items
      (ap (λ (bytes : List ℕ). c.loop-run.dst.items ++ bytes) (take_rest haystack c.loop-run.copied) ∙ whole);
}
