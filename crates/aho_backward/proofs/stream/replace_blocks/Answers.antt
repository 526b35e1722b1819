-- From read to read, and what is left at each end.
use Rattle.std.proofs.Common.{◌≡◌, ◌+◌, ◌-◌, ◌*◌, ◌≤◌, inl, inr, ℕ, true, false, List, [], drop, length, map, refl, sym, ◌∙◌, ap, subst, arith}
use Rattle.std.specs.Prelude.{Err}
use Rattle.std.proofs.lemmas.List.{length-drop}
use Rattle.std.proofs.lemmas.List.{nil_from_length}
use Rattle.aho_core.specs.Laws.{Reads, longest}
use Rattle.aho_core.specs.Patterns.{Patterns}
use Rattle.aho_core.specs.Replacement.{pieces_of}
use Rattle.aho_automaton.specs.declared.automaton.Automaton.{Ghosts as Automata}
use Rattle.aho_stream.specs.After.{greatest_position, kept_for}
use Rattle.aho_backward.specs.Backward.{IsTurnedFrom}
use Rattle.aho_backward.specs.Streams.{held_back}
use Rattle.aho_backward.specs.Turned.{turned}
use Rattle.aho_backward.proofs.Streaming.{GoneTo, all-but, all-written, begins-here, begins-some, err-given, four-here, gave-all, gone-filled, gone-first, gone-flushed, gone-settled, leaves-most, leaves-some, leaves-whole, limit-is, longest-leading, lookups-bounded}
use Rattle.aho_backward.proofs.stream.replace_blocks.Goals as goal

-- what a buffer's size keeps back is no more than may be held back
bound-of : {A : Type 0} (G : Automata A) (a : A) (given : List ℕ) (least : ℕ) → least ≡ kept_for (G.lengths a)
    → ((p : Patterns) → IsTurnedFrom G a given p → Reads (turned p given) (G.kind a) (G.lengths a) (G.held a (turned p given)) (G.list a) (G.dead a) (G.starts a))
    → (p : Patterns) → IsTurnedFrom G a given p → 2 * (least - 1) ≤ held_back (map length p.words)
bound-of G a given least is laws p of =
    let short = longest-leading G a given p of (laws p of) in
    omega (arith, short, is)

pub loop-buffer-init : goal.loop-buffer-init
loop-buffer-init g c =
    let none : c.args.buffer.now.bytes ≡ [] = nil_from_length c.args.buffer.now.bytes c.requires.empty in
    let first = gone-first g.W.Of.Automaton g.R.Source g.K.Sink (g.W.Walk.of c.args.walk.now) c.args.given.now (pieces_of c.args.replace_with.now) c.args.source.now c.args.sink.now (g.W.Walk.lookups c.args.walk.now) in
    record {
      same = refl;
      least = refl;
      size = refl;
      within = omega arith;
      passed = omega arith;
      few = omega (arith, c.requires.empty);
      gone = subst (λ (xs : List ℕ). GoneTo g.W.Of.Automaton g.R.Source g.K.Sink (g.W.Walk.of c.args.walk.now) c.args.given.now (pieces_of c.args.replace_with.now) c.args.source.now c.args.sink.now (g.W.Walk.lookups c.args.walk.now)
          c.args.source.now c.args.sink.now (g.W.Walk.lookups c.args.walk.now) false xs greatest_position) (sym none) first;
      reads = refl;
      writes = refl;
      empty_writes = refl;
    }

pub returns-in_err-flush-clause-leaves : goal.returns-in_err-flush-clause-leaves
returns-in_err-flush-clause-leaves g c =
    let inv = c.loop-buffer.invariant in
    let gone = gone-flushed _ _ _ _ _ _ _ _ _ c.loop-buffer.source c.loop-buffer.sink c.flush.new.self _ _ _ inv.gone c.in_err-flush.ensures.kept in
    rw (err-given c.from_residual.result c.in_err-flush.field-0.0 c.from_residual.ensures.1)
    (leaves-some _ _ _ _ _ _ _ _ _ c.in_err-flush.field-0.0 c.in_err-flush.ensures.only (begins-here _ _ _ _ _ _ _ _ _ _ _ _ _ _ _ gone))

pub returns-in_err-filled-clause-leaves : goal.returns-in_err-filled-clause-leaves
returns-in_err-filled-clause-leaves g c =
    let inv = c.loop-buffer.invariant in
    let a = g.W.Of.Automaton in
    let automaton = g.W.Walk.of c.args.walk.now in
    let error = c.in_err-filled.field-0.0 in
    let told = c.in_err-filled.ensures in
    let flushed = gone-flushed _ _ _ _ _ _ _ _ _ c.loop-buffer.source c.loop-buffer.sink c.flush.new.self _ _ _ inv.gone c.in_ok-flush.ensures.kept in
    let gone = gone-filled _ _ _ _ _ _ _ _ _ c.loop-buffer.source c.read_on.new.source c.flush.new.self _ c.loop-buffer.buffer c.read_on.new.buffer c.loop-buffer.passed c.loop-buffer.room c.loop-buffer.room false flushed inv.within told.gained told.ended
    (omega (arith, told.nothing)) in
    let few : length (drop c.loop-buffer.passed c.read_on.new.buffer.bytes) ≤ 2 * (c.loop-buffer.buffer.least - 1) = omega (arith, inv.few, told.nothing, length-drop c.loop-buffer.passed c.read_on.new.buffer.bytes, length-drop c.loop-buffer.passed c.loop-buffer.buffer.bytes) in
    let bound = bound-of a automaton c.args.given.now c.loop-buffer.buffer.least (inv.least ∙ c.requires.least) (λ p of. g.met.W.Of.Automaton.laws automaton (turned p c.args.given.now) of.of) in
    rw (err-given c.from_residual-in_err-filled.result error c.from_residual-in_err-filled.ensures.1)
    (leaves-most _ _ _ _ _ _ _ _ _ error (begins-here _ _ _ _ _ _ _ _ _ _ _ _ _ _ _ gone) (all-but _ _ _ _ _ _ _ _ _ _ _ _ _ _ _ gone (2 * (c.loop-buffer.buffer.least - 1)) bound few)
    (λ met. gave-all _ _ _ _ _ _ _ _ _ _ _ _ _ _ _ gone refl (told.limit (ap Err (limit-is error met)))))

pub returns-in_err-filled-clause-four_look_ups_a_byte : goal.returns-in_err-filled-clause-four_look_ups_a_byte
returns-in_err-filled-clause-four_look_ups_a_byte g c =
    let inv = c.loop-buffer.invariant in
    let told = c.in_err-filled.ensures in
    let gone = gone-filled _ _ _ _ _ _ _ _ _ c.loop-buffer.source c.read_on.new.source c.loop-buffer.sink _ c.loop-buffer.buffer c.read_on.new.buffer c.loop-buffer.passed c.loop-buffer.room c.loop-buffer.room false inv.gone inv.within told.gained told.ended
    (omega (arith, told.nothing)) in
    four-here _ _ _ _ _ _ _ _ _ _ _ _ _ _ _ gone (g.W.Walk.lookups c.loop-buffer.walk) (omega arith)

pub write_settled-requires-clause-room : goal.write_settled-requires-clause-room
write_settled-requires-clause-room g c =
    let inv = c.loop-buffer.invariant in
    let told = c.in_ok-filled.ensures in
    let gone = gone-filled _ _ _ _ _ _ _ _ _ c.loop-buffer.source c.read_on.new.source c.loop-buffer.sink _ c.loop-buffer.buffer c.read_on.new.buffer c.loop-buffer.passed c.loop-buffer.room (c.loop-buffer.room - c.in_ok-filled.filled.read) c.in_ok-filled.filled.ended
    inv.gone inv.within told.gained told.ended (omega (arith, told.told, told.limited.0)) in
    let bounded = lookups-bounded _ _ _ _ _ _ _ _ _ _ _ _ _ _ _ gone in
    omega (arith, bounded, c.requires.room, length-drop c.loop-buffer.passed c.read_on.new.buffer.bytes)

pub returns-in_err-passed-clause-leaves : goal.returns-in_err-passed-clause-leaves
returns-in_err-passed-clause-leaves g c =
    let inv = c.loop-buffer.invariant in
    let told = c.in_ok-filled.ensures in
    let error = c.in_err-passed.field-0.0 in
    let flushed = gone-flushed _ _ _ _ _ _ _ _ _ c.loop-buffer.source c.loop-buffer.sink c.flush.new.self _ _ _ inv.gone c.in_ok-flush.ensures.kept in
    let gone = gone-filled _ _ _ _ _ _ _ _ _ c.loop-buffer.source c.read_on.new.source c.flush.new.self _ c.loop-buffer.buffer c.read_on.new.buffer c.loop-buffer.passed c.loop-buffer.room (c.loop-buffer.room - c.in_ok-filled.filled.read) c.in_ok-filled.filled.ended
    flushed inv.within told.gained told.ended (omega (arith, told.told, told.limited.0)) in
    let wrote = rw inv.same at c.in_err-passed.ensures.begun in
    let far : longest (g.W.Of.Automaton.lengths (g.W.Walk.of c.args.walk.now)) ≤ c.read_on.new.buffer.least - 1 + 1 = omega (arith, told.gained.least, inv.least, c.requires.least) in
    rw (err-given c.from_residual-in_err-passed.result error c.from_residual-in_err-passed.ensures.1)
    (leaves-some _ _ _ _ _ _ _ _ _ error c.in_err-passed.ensures.only (begins-some _ _ _ _ _ _ _ _ _ _ _ _ _ _ _ gone (c.read_on.new.buffer.least - 1) c.write_settled.new.sink (inr far) wrote))

pub returns-in_err-passed-clause-four_look_ups_a_byte : goal.returns-in_err-passed-clause-four_look_ups_a_byte
returns-in_err-passed-clause-four_look_ups_a_byte g c =
    let inv = c.loop-buffer.invariant in
    let told = c.in_ok-filled.ensures in
    let gone = gone-filled _ _ _ _ _ _ _ _ _ c.loop-buffer.source c.read_on.new.source c.loop-buffer.sink _ c.loop-buffer.buffer c.read_on.new.buffer c.loop-buffer.passed c.loop-buffer.room (c.loop-buffer.room - c.in_ok-filled.filled.read) c.in_ok-filled.filled.ended
    inv.gone inv.within told.gained told.ended (omega (arith, told.told, told.limited.0)) in
    four-here _ _ _ _ _ _ _ _ _ _ _ _ _ _ _ gone (g.W.Walk.lookups c.write_settled.new.walk) (omega (arith, c.in_err-passed.ensures.cost, length-drop c.loop-buffer.passed c.read_on.new.buffer.bytes))

pub loop-buffer-preserved : goal.loop-buffer-preserved
loop-buffer-preserved g c =
    let inv = c.loop-buffer.invariant in
    let told = c.in_ok-filled.ensures in
    let now = c.in_ok-passed.ensures in
    let end = rw c.if-filled.false at told.ended in
    let flushed = gone-flushed _ _ _ _ _ _ _ _ _ c.loop-buffer.source c.loop-buffer.sink c.flush.new.self _ _ _ inv.gone c.in_ok-flush.ensures.kept in
    let gone = gone-filled _ _ _ _ _ _ _ _ _ c.loop-buffer.source c.read_on.new.source c.flush.new.self _ c.loop-buffer.buffer c.read_on.new.buffer c.loop-buffer.passed c.loop-buffer.room (c.loop-buffer.room - c.in_ok-filled.filled.read) false
    flushed inv.within told.gained end (omega (arith, told.told, told.limited.0)) in
    let settled = rw inv.same at now.settled in
    let far : longest (g.W.Of.Automaton.lengths (g.W.Walk.of c.args.walk.now)) ≤ c.read_on.new.buffer.least - 1 + 1 = omega (arith, told.gained.least, inv.least, c.requires.least) in
    record {
      same = now.same ∙ inv.same;
      least = now.least ∙ told.gained.least ∙ inv.least;
      size = now.size ∙ told.gained.size ∙ inv.size;
      within = now.within;
      passed = omega (arith, now.passed, now.least);
      few = omega (arith, settled.few, now.least);
      gone = gone-settled _ _ _ _ _ _ _ _ _ c.read_on.new.source c.flush.new.self c.write_settled.new.sink _ _ (c.read_on.new.buffer.least - 1) _ _ _ gone far settled;
      reads = told.read_failed ∙ inv.reads;
      writes = now.write_failed ∙ c.in_ok-flush.ensures.failures ∙ inv.writes;
      empty_writes = now.took_nothing ∙ c.in_ok-flush.ensures.empty_writes ∙ inv.empty_writes;
    }

pub returns-in_err-write_block-clause-leaves : goal.returns-in_err-write_block-clause-leaves
returns-in_err-write_block-clause-leaves g c =
    let inv = c.loop-buffer.invariant in
    let told = c.in_ok-filled.ensures in
    let error = c.in_err-write_block.field-0.0 in
    let end = rw c.if-filled.true at told.ended in
    let flushed = gone-flushed _ _ _ _ _ _ _ _ _ c.loop-buffer.source c.loop-buffer.sink c.flush.new.self _ _ _ inv.gone c.in_ok-flush.ensures.kept in
    let gone = gone-filled _ _ _ _ _ _ _ _ _ c.loop-buffer.source c.read_on.new.source c.flush.new.self _ c.loop-buffer.buffer c.read_on.new.buffer c.loop-buffer.passed c.loop-buffer.room (c.loop-buffer.room - c.in_ok-filled.filled.read) true
    flushed inv.within told.gained end (omega (arith, told.told, told.limited.0)) in
    let wrote = rw (inv.same, c.unwritten-rest.ensures.bytes) at c.in_err-write_block.ensures.begun in
    rw (err-given c.from_residual-in_err-write_block.result error c.from_residual-in_err-write_block.ensures.1)
    (leaves-some _ _ _ _ _ _ _ _ _ error c.in_err-write_block.ensures.only (begins-some _ _ _ _ _ _ _ _ _ _ _ _ _ _ _ gone 0 c.write_block.new.sink (inl refl) wrote))

pub returns-in_err-write_block-clause-four_look_ups_a_byte : goal.returns-in_err-write_block-clause-four_look_ups_a_byte
returns-in_err-write_block-clause-four_look_ups_a_byte g c =
    let inv = c.loop-buffer.invariant in
    let told = c.in_ok-filled.ensures in
    let gone = gone-filled _ _ _ _ _ _ _ _ _ c.loop-buffer.source c.read_on.new.source c.loop-buffer.sink _ c.loop-buffer.buffer c.read_on.new.buffer c.loop-buffer.passed c.loop-buffer.room (c.loop-buffer.room - c.in_ok-filled.filled.read) c.in_ok-filled.filled.ended
    inv.gone inv.within told.gained told.ended (omega (arith, told.told, told.limited.0)) in
    four-here _ _ _ _ _ _ _ _ _ _ _ _ _ _ _ gone (g.W.Walk.lookups c.write_block.new.walk) (omega (arith, rw c.unwritten-rest.ensures.bytes at c.in_err-write_block.ensures.cost))

pub returns-clause-leaves : goal.returns-clause-leaves
returns-clause-leaves g c =
    let inv = c.loop-buffer.invariant in
    let told = c.in_ok-filled.ensures in
    let now = c.in_ok-write_block.ensures in
    let end = rw c.if-filled.true at told.ended in
    let flushed = gone-flushed _ _ _ _ _ _ _ _ _ c.loop-buffer.source c.loop-buffer.sink c.flush.new.self _ _ _ inv.gone c.in_ok-flush.ensures.kept in
    let gone = gone-filled _ _ _ _ _ _ _ _ _ c.loop-buffer.source c.read_on.new.source c.flush.new.self _ c.loop-buffer.buffer c.read_on.new.buffer c.loop-buffer.passed c.loop-buffer.room (c.loop-buffer.room - c.in_ok-filled.filled.read) true
    flushed inv.within told.gained end (omega (arith, told.told, told.limited.0)) in
    let wrote = rw (inv.same, c.unwritten-rest.ensures.bytes) at now.written in
    let further = rw c.unwritten-rest.ensures.bytes at now.further in
    let within = rw c.unwritten-rest.ensures.bytes at now.within in
    leaves-whole _ _ _ _ _ _ _ _ _ (all-written _ _ _ _ _ _ _ _ _ c.read_on.new.source c.flush.new.self c.write_block.new.sink _ c.in_ok-write_block.field-0 _ _ gone (omega (arith, further, within)) wrote)

pub returns-clause-four_look_ups_a_byte : goal.returns-clause-four_look_ups_a_byte
returns-clause-four_look_ups_a_byte g c =
    let inv = c.loop-buffer.invariant in
    let told = c.in_ok-filled.ensures in
    let gone = gone-filled _ _ _ _ _ _ _ _ _ c.loop-buffer.source c.read_on.new.source c.loop-buffer.sink _ c.loop-buffer.buffer c.read_on.new.buffer c.loop-buffer.passed c.loop-buffer.room (c.loop-buffer.room - c.in_ok-filled.filled.read) c.in_ok-filled.filled.ended
    inv.gone inv.within told.gained told.ended (omega (arith, told.told, told.limited.0)) in
    four-here _ _ _ _ _ _ _ _ _ _ _ _ _ _ _ gone (g.W.Walk.lookups c.write_block.new.walk) (omega (arith, rw c.unwritten-rest.ensures.bytes at c.in_ok-write_block.ensures.cost))
