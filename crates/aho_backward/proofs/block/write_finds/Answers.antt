-- From place to place, and from find to find.
use Rattle.std.proofs.Common.{◌≡◌, ◌+◌, ◌-◌, ◌<◌, ◌≤◌, ℕ, List, Some, None, get_or, length, refl, sym, ◌∙◌, subst, arith}
use Rattle.std.specs.Prelude.{Err, Ok, OnErr, Result, slice_index}
use Rattle.std.proofs.lemmas.Grind.{get_or_default_zero}
use Rattle.aho_core.specs.declared.search.Anchored.TheVariants.{Yes}
use Rattle.aho_core.specs.Best.{IsBest, IsBestOrNone}
use Rattle.aho_core.specs.Laws.{Reads}
use Rattle.aho_core.specs.Occurrence.{Occurrence, occurrence}
use Rattle.aho_core.specs.Occurs.{Occurs}
use Rattle.aho_core.specs.Patterns.{Patterns}
use Rattle.aho_core.specs.Replacement.{pieces_of}
use Rattle.aho_automaton.specs.declared.automaton.Automaton.{Ghosts as Automata}
use Rattle.aho_backward.specs.Backward.{IsTurnedFrom, TellsAt, told_back}
use Rattle.aho_backward.specs.Streams.{AreHeldAt, IsBlockOf}
use Rattle.aho_backward.specs.Turned.{turned}
use Rattle.aho_backward.proofs.Passing.{begins-full}
use Rattle.aho_backward.proofs.Writing.{block-itself, block-tells-at, told-moved, told-none, wrote-find, wrote-find-some, wrote-first, wrote-none, wrote-plain, wrote-plain-some}
use Rattle.aho_backward.proofs.block.write_finds.Goals as goal

module _ {A : Type 0} (G : Automata A) (a : A) (given bytes states : List ℕ) (behind : ℕ)
    (laws : (p : Patterns) → IsTurnedFrom G a given p → Reads (turned p given) (G.kind a) (G.lengths a) (G.held a (turned p given)) (G.list a) (G.dead a) (G.starts a))
    (held : AreHeldAt G a bytes states) (at sid : ℕ) (before : at < length bytes - behind) (is : sid ≡ get_or states at sid) where
  -- the state that is read at a place tells what begins there
  told-here : (p : Patterns) (text : List ℕ) (first : ℕ) → IsBlockOf G a given bytes behind p text first → TellsAt G a given p text (first + at) sid
  told-here p text first block =
      let inside : at < length states = omega (arith, held.room, before) in
      let same : slice_index states at ≡ sid = sym (is ∙ get_or_default_zero states at sid inside) in
      subst (TellsAt G a given p text (first + at)) same (block-tells-at G a given bytes states behind p text first at (laws p block.turned_from) held block (omega arith))

  best-here : (m : Occurrence) → Some m ≡ told_back given (G.lengths a) at (G.list a sid) → (p : Patterns) (text : List ℕ) (first : ℕ) → IsBlockOf G a given bytes behind p text first
      → IsBest p.kind (Occurs p Yes text (first + at) (length text)) (occurrence (first + m.start) (first + m.end) m.pattern)
  best-here m told p text first block =
      subst (IsBestOrNone p.kind (Occurs p Yes text (first + at) (length text))) (told-moved given (G.lengths a) (G.list a sid) first at m told) (told-here p text first block).best

  none-here : None ≡ told_back given (G.lengths a) at (G.list a sid) → (p : Patterns) (text : List ℕ) (first : ℕ) → IsBlockOf G a given bytes behind p text first
      → IsBestOrNone p.kind (Occurs p Yes text (first + at) (length text)) None
  none-here told p text first block =
      subst (IsBestOrNone p.kind (Occurs p Yes text (first + at) (length text))) (told-none given (G.lengths a) (G.list a sid) first at told) (told-here p text first block).best

  -- and where it ends
  sized-here : (m : Occurrence) → Some m ≡ told_back given (G.lengths a) at (G.list a sid) → (p : Patterns) → IsTurnedFrom G a given p → (at < m.end) × (m.end ≤ length bytes)
  sized-here m told p from =
      let full = begins-full p from.full bytes (0 + at) (occurrence (0 + m.start) (0 + m.end) m.pattern) (best-here m told p bytes 0 (block-itself G a given bytes behind p from)).0 in
      (omega (arith, full.1), omega (arith, full.2))

on-err : {T E : Type 0} (r : Result T E) (P Q : Type 0) → (P → Q) → OnErr r P → OnErr r Q
on-err (Ok x) P Q f h = tt
on-err (Err e) P Q f h = f h

given-err : {T E : Type 0} (r : Result T E) (P : Type 0) → P → OnErr r P
given-err (Ok x) P h = tt
given-err (Err e) P h = h

pub loop-at-init : goal.loop-at-init
loop-at-init g c = record {
  ordered = omega arith;
  within = omega arith;
  wrote = wrote-first g.W.Of.Automaton g.K.Sink (g.W.Walk.of c.args.walk.now) c.args.given.now c.args.bytes.now c.args.behind (pieces_of c.args.replace_with.now) c.args.sink.now;
  failures = refl;
  empty_writes = refl;
}

pub told_from-requires-clause-fits : goal.told_from-requires-clause-fits
told_from-requires-clause-fits g c =
    let a = g.W.Of.Automaton in
    let automaton = g.W.Walk.of c.args.walk.now in
    let given = c.args.given.now in
    let bytes = c.args.bytes.now in
    let at = c.loop-at.at in
    let (p, from) = c.requires.of in
    let here = told-here a automaton given bytes c.args.states.now c.args.behind (λ q f. g.met.W.Of.Automaton.laws automaton (turned q given) f.of) c.requires.held at c.index-states-at.result c.loop-at-test.true c.index-states-at.is p bytes 0
    (block-itself a automaton given bytes c.args.behind p from) in
    (length bytes - (0 + at), omega arith, here.fits)

pub returns-in_err-write_find-in-Some-clause-begun : goal.returns-in_err-write_find-in-Some-clause-begun
returns-in_err-write_find-in-Some-clause-begun g c =
    let a = g.W.Of.Automaton in
    let automaton = g.W.Walk.of c.args.walk.now in
    let given = c.args.given.now in
    let bytes = c.args.bytes.now in
    let at = c.loop-at.at in
    let inv = c.loop-at.invariant in
    let m = c.in-Some.m in
    let best = best-here a automaton given bytes c.args.states.now c.args.behind (λ q f. g.met.W.Of.Automaton.laws automaton (turned q given) f.of) c.requires.held at c.index-states-at.result c.loop-at-test.true c.index-states-at.is m c.in-Some.ensures.told in
    let wrote = rw c.piece_of.ensures.piece at c.in_err-write_find-in-Some.ensures.beginning in
    given-err c.from_residual.result _
    (wrote-find-some a g.K.Sink automaton given bytes c.args.behind (pieces_of c.args.replace_with.now) c.args.sink.now c.loop-at.sink c.loop-at.copied at inv.ordered (omega (arith, c.loop-at-test.true)) inv.wrote m best c.write_find.new.sink wrote)

pub loop-at-smaller-in-Some : goal.loop-at-smaller-in-Some
loop-at-smaller-in-Some g c =
    let a = g.W.Of.Automaton in
    let automaton = g.W.Walk.of c.args.walk.now in
    let given = c.args.given.now in
    let (p, from) = c.requires.of in
    let size = sized-here a automaton given c.args.bytes.now c.args.states.now c.args.behind (λ q f. g.met.W.Of.Automaton.laws automaton (turned q given) f.of) c.requires.held c.loop-at.at c.index-states-at.result c.loop-at-test.true c.index-states-at.is
    c.in-Some.m c.in-Some.ensures.told p from in
    omega (arith, size.0, size.1, c.end-at.ensures.end, c.loop-at-test.true)

pub loop-at-preserved-in-Some : goal.loop-at-preserved-in-Some
loop-at-preserved-in-Some g c =
    let a = g.W.Of.Automaton in
    let automaton = g.W.Walk.of c.args.walk.now in
    let given = c.args.given.now in
    let bytes = c.args.bytes.now in
    let at = c.loop-at.at in
    let inv = c.loop-at.invariant in
    let m = c.in-Some.m in
    let laws = λ (q : Patterns) (f : IsTurnedFrom a automaton given q). g.met.W.Of.Automaton.laws automaton (turned q given) f.of in
    let (p, from) = c.requires.of in
    let best = best-here a automaton given bytes c.args.states.now c.args.behind laws c.requires.held at c.index-states-at.result c.loop-at-test.true c.index-states-at.is m c.in-Some.ensures.told in
    let size = sized-here a automaton given bytes c.args.states.now c.args.behind laws c.requires.held at c.index-states-at.result c.loop-at-test.true c.index-states-at.is m c.in-Some.ensures.told p from in
    let wrote = rw c.piece_of.ensures.piece at c.in_ok-write_find-in-Some.ensures.whole in
    record {
      ordered = omega arith;
      within = omega (arith, size.1, c.end-at.ensures.end);
      wrote = wrote-find a g.K.Sink automaton given bytes c.args.behind (pieces_of c.args.replace_with.now) c.args.sink.now c.loop-at.sink c.loop-at.copied at inv.ordered (omega (arith, c.loop-at-test.true)) inv.wrote m best c.write_find.new.sink c.end-at.result
          c.end-at.ensures.end wrote;
      failures = c.in_ok-write_find-in-Some.ensures.write_failed ∙ inv.failures;
      empty_writes = c.in_ok-write_find-in-Some.ensures.took_nothing ∙ inv.empty_writes;
    }

pub loop-at-preserved : goal.loop-at-preserved
loop-at-preserved g c =
    let a = g.W.Of.Automaton in
    let automaton = g.W.Walk.of c.args.walk.now in
    let given = c.args.given.now in
    let bytes = c.args.bytes.now in
    let at = c.loop-at.at in
    let inv = c.loop-at.invariant in
    let none = none-here a automaton given bytes c.args.states.now c.args.behind (λ q f. g.met.W.Of.Automaton.laws automaton (turned q given) f.of) c.requires.held at c.index-states-at.result c.loop-at-test.true c.index-states-at.is c.in-None.ensures.told in
    record {
      ordered = omega (arith, inv.ordered);
      within = omega (arith, c.loop-at-test.true);
      wrote = wrote-none a g.K.Sink automaton given bytes c.args.behind (pieces_of c.args.replace_with.now) c.args.sink.now c.loop-at.sink c.loop-at.copied at inv.ordered inv.within inv.wrote (at + 1) refl none;
      failures = inv.failures;
      empty_writes = inv.empty_writes;
    }

pub returns-in_err-write_whole-clause-begun : goal.returns-in_err-write_whole-clause-begun
returns-in_err-write_whole-clause-begun g c =
    let inv = c.loop-at.invariant in
    given-err c.from_residual-in_err-write_whole.result _
    (wrote-plain-some g.W.Of.Automaton g.K.Sink (g.W.Walk.of c.args.walk.now) c.args.given.now c.args.bytes.now c.args.behind (pieces_of c.args.replace_with.now) c.args.sink.now c.loop-at.sink c.loop-at.copied c.loop-at.at inv.ordered inv.within inv.wrote
    c.write_whole.new.sink c.in_err-write_whole.ensures.beginning)

pub returns-clause-written : goal.returns-clause-written
returns-clause-written g c =
    let inv = c.loop-at.invariant in
    wrote-plain g.W.Of.Automaton g.K.Sink (g.W.Walk.of c.args.walk.now) c.args.given.now c.args.bytes.now c.args.behind (pieces_of c.args.replace_with.now) c.args.sink.now c.loop-at.sink c.loop-at.copied c.loop-at.at inv.ordered inv.within inv.wrote
    c.write_whole.new.sink c.in_ok-write_whole.ensures.whole
