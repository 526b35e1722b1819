use Rattle.std.proofs.Common.{◌≡◌, ◌<◌, ◌+◌, ◌∙◌, ap, sym, refl, subst, arith, length, cond, Bool, ℕ}
use Rattle.aho_build.specs.Starts.{IsLedBelow, ListsAllBytes, looped, stops_at}
use Rattle.aho_table.specs.Table.{fail_id, dead_id, Tables, next_in, matches_in, set_transition, lists_byte, transitions_count}
use Rattle.aho_build.specs.FirstStates.{root_id}
use Rattle.aho_build.proofs.NumberTests.{same-true, same-false}
use Rattle.aho_build.proofs.KeptTransitions.{ListsAllBytes-set}
use Rattle.aho_build.proofs.StartTransitions.{IsLedBelow-none, IsLedBelow-set, IsLedBelow-kept, looped-free, looped-taken}
use Rattle.aho_build.proofs.compiler.failure.add_unanchored_start_state_loop.Goals as goal
use Rattle.aho_build.proofs.compiler.failure.add_unanchored_start_state_loop.Goals.{then-ends_here, else-ends_here, then-eq+in_ok-set, else-eq}

pub loop-byte-init : goal.loop-byte-init
loop-byte-init c = record {
  led = IsLedBelow-none root_id (looped c.args.kind c.args.table.now.states) c.args.table.now.states;
  limit = refl;
  listed = λ listed. listed;
  transitions = λ listed. refl;
}

pub loop-byte-preserved : goal.loop-byte-preserved
loop-byte-preserved c =
    let old = c.args.table.now.states in
    let led = c.loop-byte.invariant.led in
    let below : root_id < length c.loop-byte.table.states = omega (arith, c.loop-byte.invariant.led.sized, c.requires.start) in
    let root_is = c.unanchored_start-root.ensures.start in
    let test : c.ends_here.result ≡ stops_at c.args.kind (matches_in old root_id) = c.ends_here.ensures.ends ∙ ap (λ (n : ℕ). stops_at c.args.kind (matches_in old n)) root_is in
    let back_is : c.if-ends_here.back ≡ cond (stops_at c.args.kind (matches_in old root_id)) dead_id root_id =
    elim c.if-ends_here.branch [
      | then-ends_here w ↦ w.back-is ∙ ap (λ (b : Bool). cond b dead_id root_id) (sym w.if-ends_here.true ∙ test)
      | else-ends_here w ↦ w.back-is ∙ root_is ∙ ap (λ (b : Bool). cond b dead_id root_id) (sym w.if-ends_here.false ∙ test)
    ] in
    let read : c.next_of.result ≡ next_in old root_id c.loop-byte.byte =
    c.next_of.ensures.next ∙ ap (λ (n : ℕ). next_in c.loop-byte.table.states n c.loop-byte.byte) root_is ∙ led.later c.loop-byte.byte (omega arith) in
    elim c.if-eq.branch [
      | then-eq+in_ok-set w ↦
          let states = ap (λ (t : Tables). t.states) (w.table-is ∙ w.in_ok-set.ensures.set) ∙ ap (λ (n : ℕ). set_transition c.loop-byte.table.states n c.loop-byte.byte c.if-ends_here.back) root_is in
          record {
            led = IsLedBelow-set root_id c.loop-byte.byte c.if-ends_here.back (looped c.args.kind old) old c.loop-byte.table.states c.if-eq.table.states below led
                (looped-free c.args.kind old c.loop-byte.byte c.if-ends_here.back (sym read ∙ same-true c.eq.result c.next_of.result fail_id c.eq.ensures w.if-eq.true) back_is) states;
            limit = ap (λ (t : Tables). t.limit) (w.table-is ∙ w.in_ok-set.ensures.set) ∙ c.loop-byte.invariant.limit;
            listed = λ listed. ListsAllBytes-set c.loop-byte.table.states c.if-eq.table.states root_id c.loop-byte.byte c.if-ends_here.back below states (c.loop-byte.invariant.listed listed);
            transitions = λ listed.
                ap (λ (t : Tables). transitions_count t.states) w.table-is
                ∙ w.in_ok-set.ensures.kept (ap (λ (n : ℕ). lists_byte c.loop-byte.table.states n c.loop-byte.byte) root_is ∙ c.loop-byte.invariant.listed listed c.loop-byte.byte c.loop-byte-test.true)
                ∙ c.loop-byte.invariant.transitions listed;
          }
      | else-eq w ↦ record {
        led = subst (λ (t : Tables). IsLedBelow root_id (c.loop-byte.byte + 1) (looped c.args.kind old) old t.states) (sym w.table-is)
            (IsLedBelow-kept root_id c.loop-byte.byte (looped c.args.kind old) old c.loop-byte.table.states led
            (looped-taken c.args.kind old c.loop-byte.byte (λ e. same-false c.eq.result c.next_of.result fail_id c.eq.ensures w.if-eq.false (read ∙ e))));
        limit = ap (λ (t : Tables). t.limit) w.table-is ∙ c.loop-byte.invariant.limit;
        listed = λ listed. subst (λ (t : Tables). ListsAllBytes t.states root_id) (sym w.table-is) (c.loop-byte.invariant.listed listed);
        transitions = λ listed. ap (λ (t : Tables). transitions_count t.states) w.table-is ∙ c.loop-byte.invariant.transitions listed;
      }
    ]

pub returns-in_err-set-clause-full : goal.returns-in_err-set-clause-full
returns-in_err-set-clause-full c listed =
    let clash =
    c.in_err-set.ensures.there
    (ap (λ (n : ℕ). lists_byte c.loop-byte.table.states n c.loop-byte.byte) c.unanchored_start-root.ensures.start ∙ c.loop-byte.invariant.listed listed c.loop-byte.byte c.loop-byte-test.true) in
    cc

pub returns : goal.returns
returns c =
    let all : c.loop-byte.byte ≡ 256 = omega arith in
    record {
      looped = subst (λ (n : ℕ). IsLedBelow root_id n (looped c.args.kind c.args.table.now.states) c.args.table.now.states c.loop-byte.table.states) all c.loop-byte.invariant.led;
      limit = c.loop-byte.invariant.limit;
      transitions = c.loop-byte.invariant.transitions;
      full = λ listed. refl;
    }
