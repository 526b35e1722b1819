use Rattle.std.proofs.Common.{◌≡◌, ◌≤◌, ◌∙◌, ℕ, List, ◌++◌, length, sym, ap, subst, arith}
use Rattle.std.proofs.lemmas.Iterator.Consumers.{YieldsList-from_first, YieldsList-turn, YieldsList-end}
use Rattle.std.proofs.lemmas.List.{append-nil, take_all}
use Rattle.std.specs.Option.{option_to_list}
use Rattle.std.specs.Prelude.{Option}
use Rattle.acdraw.specs.Runs.{AreApart, all_pairs}
use Rattle.acdraw.specs.declared.picture.runs.Run.{Run}
use Rattle.aho_table.proofs.Fronts.{front_more}
use Rattle.acdraw.proofs.picture.runs.runs_of.Goals as goal

pub loop-byte-preserved : goal.loop-byte-preserved
loop-byte-preserved c =
    let start : c.into_iter-byte-iterator.result ≡ c.args.transitions = c.into_iter-byte-iterator.ensures.into_iter_gives in
    let turn = YieldsList-turn (YieldsList-from_first (λ (x : ℕ × ℕ). x) (λ (rest : List (ℕ × ℕ)). rest) {s = c.into_iter-byte-iterator.result} c.args.transitions start) c.loop-byte.yielded _ c.loop-byte.yielded_by _ _ (c.in-Some.byte, c.in-Some.next) c.in-Some.is c.next.ensures.steps in
    record {
      pairs = c.in_ok-put_byte.ensures.put ∙ front_more c.args.transitions c.loop-byte.yielded _ (c.in-Some.byte, c.in-Some.next) c.loop-byte.invariant.pairs turn.0 turn.1;
      apart = c.in_ok-put_byte.ensures.apart;
      begun = λ none. (cc);
    }

pub returns-in_default : goal.returns-in_default
returns-in_default c =
    let start : c.into_iter-byte-iterator.result ≡ c.args.transitions = c.into_iter-byte-iterator.ensures.into_iter_gives in
    let end = YieldsList-end (YieldsList-from_first (λ (x : ℕ × ℕ). x) (λ (rest : List (ℕ × ℕ)). rest) {s = c.into_iter-byte-iterator.result} c.args.transitions start) c.loop-byte.yielded _ c.loop-byte.yielded_by _ _ c.in-None.is c.next.ensures.steps in
    let past : length c.args.transitions ≤ length c.loop-byte.yielded = omega (arith, end.1) in
    let runs : List Run = c.loop-byte.runs.items in
    record {
      apart = subst AreApart (ap (λ (o : Option Run). runs ++ option_to_list o) c.in_default.is ∙ append-nil runs) c.loop-byte.invariant.apart;
      same = ap all_pairs (sym (append-nil runs) ∙ ap (λ (o : Option Run). runs ++ option_to_list o) (sym c.in_default.is))
          ∙ c.loop-byte.invariant.pairs
          ∙ take_all (length c.loop-byte.yielded) c.args.transitions past;
    }

pub returns : goal.returns
returns c =
    let start : c.into_iter-byte-iterator.result ≡ c.args.transitions = c.into_iter-byte-iterator.ensures.into_iter_gives in
    let end = YieldsList-end (YieldsList-from_first (λ (x : ℕ × ℕ). x) (λ (rest : List (ℕ × ℕ)). rest) {s = c.into_iter-byte-iterator.result} c.args.transitions start) c.loop-byte.yielded _ c.loop-byte.yielded_by _ _ c.in-None.is c.next.ensures.steps in
    let past : length c.args.transitions ≤ length c.loop-byte.yielded = omega (arith, end.1) in
    let runs : List Run = c.loop-byte.runs.items in
    record {
      apart = subst AreApart (ap (λ (o : Option Run). runs ++ option_to_list o) c.in-Some-last.is ∙ sym c.in_ok-push.ensures.items) c.loop-byte.invariant.apart;
      same = ap all_pairs (c.in_ok-push.ensures.items ∙ ap (λ (o : Option Run). runs ++ option_to_list o) (sym c.in-Some-last.is))
          ∙ c.loop-byte.invariant.pairs
          ∙ take_all (length c.loop-byte.yielded) c.args.transitions past;
    }
