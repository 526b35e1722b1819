use Rattle.std.proofs.Common.{◌≡◌, ℕ, List, ◌≤◌, ◌-◌, length, take, drop, sym, ap, ◌∙◌, arith, vec_capacity}
use Rattle.std.proofs.lemmas.List.{length-take-le}
use Rattle.aho_devices.specs.Buffer.{Buffered, rolled}
use Rattle.aho_devices.proofs.Gained.{take-copy_within}
use Rattle.aho_devices.proofs.buffer.Buffer.roll.Goals as goal

pub returns-clause-rolled : goal.returns-clause-rolled
returns-clause-rolled c =
    let b = c.self.inside in
    let is = c.self.view_is in
    let xs = b.buf.items in
    let new = c.copy_within.new.self in
    let fits : b.end ≤ length xs = omega (arith, c.self.invariant.0, b.buf.ok.0) in
    let len : length (take b.end xs) ≡ b.end = length-take-le b.end xs fits in
    let least : b.least ≤ b.end = omega (arith, rw (← is) at c.requires.enough, len) in
    let bytes : take b.least new.items ≡ drop (length (take b.end xs) - b.least) (take b.end xs) =
    ap (take b.least) c.copy_within.ensures.items
    ∙ take-copy_within xs (b.end - b.least) b.least b.end (omega arith) fits
    ∙ ap (λ k. drop (k - b.least) (take b.end xs)) (sym len) in
    let of_bytes : List ℕ → Buffered = λ k. record { bytes = k; least = b.least; size = vec_capacity new } in
    let of_size : ℕ → Buffered =
    λ k. record { bytes = drop (length (take b.end xs) - b.least) (take b.end xs); least = b.least; size = k } in
    ap of_bytes bytes ∙ ap of_size c.copy_within.ensures.capacity ∙ ap rolled is
