-- One more stands behind the others, and ends where all end.
use Rattle.std.proofs.Common.{rules, ◌≡◌, ◌∙◌, ◌++◌, List, ℕ, ap, length, take}
use Rattle.secret_forms.specs.Patterns.{pattern_bytes}
use Rattle.chromesquid_c.proofs.Laying.{ends-laid-more, laid-more, taken-more}
use Rattle.chromesquid_c.proofs.forms.lay.Goals as goal

pub loop-pattern-preserved : goal.loop-pattern-preserved
loop-pattern-preserved c =
    let so_far = pattern_bytes (take c.loop-pattern.pattern-index c.args.patterns.now) in
    let one = c.pattern-item.result.items in
    let more = taken-more c.args.patterns.now c.loop-pattern.pattern-index _ c.pattern-item.result c.loop-pattern-test.true c.pattern-item.is in
    let bytes = laid-more so_far one _ _ c.loop-pattern.invariant.bytes (c.in_ok-extend_from_slice.ensures.items ∙ ap (λ (l : List ℕ). c.loop-pattern.bytes.items ++ l) c.deref.ensures.value) in
    let counted : c.len.result ≡ length c.extend_from_slice.new.self.items = search rules in
    record {
      bytes = rw more bytes;
      ends = rw more (ends-laid-more so_far one _ _ _ c.loop-pattern.invariant.ends (counted ∙ ap length bytes) c.in_ok-push.ensures.items);
    }
