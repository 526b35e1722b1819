use Rattle.std.proofs.Common.{◌≡◌, ◌+◌, ◌<◌, ◌∙◌, ap, refl, subst, arith, length, ℕ}
use Rattle.std.proofs.lemmas.Result.{on_ok_weaker, IfErr-weaker}
use Rattle.aho_build.specs.Starts.{IsLedBelow, ListsAllBytes}
use Rattle.aho_build.specs.FailureLinks.{append_matches}
use Rattle.aho_table.specs.Refusal.{IsRefusalOf}
use Rattle.aho_table.specs.Table.{Tables, State, next_in, matches_in, matches_count, set_transition, transition_at, lists_byte}
use Rattle.aho_build.specs.FirstStates.{anchored_id, root_id}
use Rattle.aho_build.proofs.MatchTotals.{IsRefusalOf-larger}
use Rattle.aho_build.proofs.KeptTransitions.{ListsAllBytes-set, ListsAllBytes-append, transitions_count-append, matches_count-led}
use Rattle.aho_build.proofs.StartTransitions.{IsLedBelow-none, IsLedBelow-set, IsLedAsRoot-both}
use Rattle.aho_build.proofs.StoppedBuilds.{IfErr-given}
use Rattle.aho_build.proofs.compiler.failure.set_anchored_start_state.Goals as goal

pub loop-byte-init : goal.loop-byte-init
loop-byte-init c = record {
  led = IsLedBelow-none anchored_id (next_in c.args.table.now.states root_id) c.args.table.now.states;
  limit = refl;
  listed = λ listed. listed;
  transitions = λ listed. refl;
}

pub loop-byte-preserved : goal.loop-byte-preserved
loop-byte-preserved c =
    let led = c.loop-byte.invariant.led in
    let below : anchored_id < length c.loop-byte.table.states = omega (arith, c.loop-byte.invariant.led.sized, c.requires.starts) in
    let is : c.next_of-next.result ≡ next_in c.args.table.now.states root_id c.loop-byte.byte =
    c.next_of-next.ensures.next
    ∙ ap (λ (n : ℕ). next_in c.loop-byte.table.states n c.loop-byte.byte) c.unanchored_start-root.ensures.start
    ∙ ap (λ (r : State). transition_at r.transitions c.loop-byte.byte) (led.others root_id (λ e. omega arith)) in
    let states = ap (λ (t : Tables). t.states) c.in_ok-set.ensures.set ∙ ap (λ (n : ℕ). set_transition c.loop-byte.table.states n c.loop-byte.byte c.next_of-next.result) c.anchored_start-anchored.ensures.start in
    record {
      led = IsLedBelow-set anchored_id c.loop-byte.byte c.next_of-next.result (next_in c.args.table.now.states root_id) c.args.table.now.states c.loop-byte.table.states c.set.new.self.states below led is states;
      limit = ap (λ (t : Tables). t.limit) c.in_ok-set.ensures.set ∙ c.loop-byte.invariant.limit;
      listed = λ listed. ListsAllBytes-set c.loop-byte.table.states c.set.new.self.states anchored_id c.loop-byte.byte c.next_of-next.result below states (c.loop-byte.invariant.listed listed);
      transitions = λ listed.
          c.in_ok-set.ensures.kept (ap (λ (n : ℕ). lists_byte c.loop-byte.table.states n c.loop-byte.byte) c.anchored_start-anchored.ensures.start ∙ c.loop-byte.invariant.listed listed c.loop-byte.byte c.loop-byte-test.true)
          ∙ c.loop-byte.invariant.transitions listed;
    }

pub returns-in_err-set-clause-refused : goal.returns-in_err-set-clause-refused
returns-in_err-set-clause-refused c =
    IfErr-given (λ error. ListsAllBytes c.args.table.now.states anchored_id → IsRefusalOf c.args.table.now.limit (matches_count c.args.table.now.states + length (matches_in c.args.table.now.states root_id)) error)
    c.from_residual.result c.in_err-set.field-0.0 c.from_residual.ensures.1
    (λ listed.
    let clash =
    c.in_err-set.ensures.there
    (ap (λ (n : ℕ). lists_byte c.loop-byte.table.states n c.loop-byte.byte) c.anchored_start-anchored.ensures.start ∙ c.loop-byte.invariant.listed listed c.loop-byte.byte c.loop-byte-test.true) in
    cc)

pub returns : goal.returns
returns c =
    let all : c.loop-byte.byte ≡ 256 = omega arith in
    record {
      led = on_ok_weaker c.copy_matches.result
          (λ is. IsLedAsRoot-both c.args.table.now.states c.loop-byte.table.states c.copy_matches.new.table.states c.requires.starts
          (subst (λ (n : ℕ). IsLedBelow anchored_id n (next_in c.args.table.now.states root_id) c.args.table.now.states c.loop-byte.table.states) all c.loop-byte.invariant.led)
          (is
          ∙ ap (λ (n : ℕ). append_matches c.loop-byte.table.states n c.unanchored_start-root.result) c.anchored_start-anchored.ensures.start
          ∙ ap (λ (n : ℕ). append_matches c.loop-byte.table.states anchored_id n) c.unanchored_start-root.ensures.start))
          c.copy_matches.ensures.copied;
      limit = on_ok_weaker c.copy_matches.result (λ is. is ∙ c.loop-byte.invariant.limit) c.copy_matches.ensures.limit;
      full = on_ok_weaker c.copy_matches.result
          (λ is listed.
          ListsAllBytes-append c.loop-byte.table.states c.copy_matches.new.table.states c.anchored_start-anchored.result c.unanchored_start-root.result anchored_id
          (omega (arith, c.loop-byte.invariant.led.sized, c.anchored_start-anchored.ensures.start, c.requires.starts)) is
          (c.loop-byte.invariant.listed listed))
          c.copy_matches.ensures.copied;
      transitions = on_ok_weaker c.copy_matches.result
          (λ is listed.
          transitions_count-append c.loop-byte.table.states c.copy_matches.new.table.states c.anchored_start-anchored.result c.unanchored_start-root.result
          (omega (arith, c.loop-byte.invariant.led.sized, c.anchored_start-anchored.ensures.start, c.requires.starts)) is
          ∙ c.loop-byte.invariant.transitions listed)
          c.copy_matches.ensures.copied;
      refused = IfErr-weaker c.copy_matches.result (IsRefusalOf c.loop-byte.table.limit (matches_count c.loop-byte.table.states + length (matches_in c.loop-byte.table.states c.unanchored_start-root.result)))
          (λ error. ListsAllBytes c.args.table.now.states anchored_id → IsRefusalOf c.args.table.now.limit (matches_count c.args.table.now.states + length (matches_in c.args.table.now.states root_id)) error)
          (λ error refusal listed.
          IsRefusalOf-larger c.args.table.now.limit (matches_count c.args.table.now.states + length (matches_in c.args.table.now.states root_id))
          c.loop-byte.table.limit (matches_count c.loop-byte.table.states + length (matches_in c.loop-byte.table.states c.unanchored_start-root.result)) error
          c.loop-byte.invariant.limit
          (omega (
            arith,
            matches_count-led anchored_id c.loop-byte.byte (next_in c.args.table.now.states root_id) c.args.table.now.states c.loop-byte.table.states c.loop-byte.invariant.led,
            ap (λ (n : ℕ). length (matches_in c.loop-byte.table.states n)) c.unanchored_start-root.ensures.start,
            ap (λ (r : State). length r.matches) (c.loop-byte.invariant.led.others root_id (λ e. omega arith)),
          ))
          refusal)
          c.copy_matches.ensures.refused;
    }
