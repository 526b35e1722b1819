-- A name more was looked at; where none is left the walk is done.
use Rattle.acgrep.proofs.Common.{nil_from_length}
use Rattle.std.proofs.Common.{◌∙◌, ◌≡◌, ap, length, rules, sym}
use Rattle.acgrep.specs.Folders.{spots_of}
use Rattle.acgrep.proofs.Walking.{begins-end, begins-then, finds-input, finds-lost, finds-out}
use Rattle.acgrep.proofs.walk.walk.Goals as goal

pub loop-preserved-then-is_standard : goal.loop-preserved-then-is_standard
loop-preserved-then-is_standard g c = begins-then _ _ _ _ _ _ _ _ (rw (ap spots_of c.in-Some.ensures.items) at c.loop.invariant)
    (finds-input _ _ _ _ _ _ _ (sym c.is_standard.ensures ∙ c.if-is_standard.true) c.in_ok-add.ensures.names c.add.ensures.unread)

pub loop-preserved-then-is_lost_left : goal.loop-preserved-then-is_lost_left
loop-preserved-then-is_lost_left g c =
    let unknown = rw (c.is_followed.ensures, c.as_slice.ensures.value) at c.in-Err.ensures.lost in
    begins-then _ _ _ _ _ _ _ _ (rw (ap spots_of c.in-Some.ensures.items) at c.loop.invariant)
    (finds-out _ _ _ _ _ _ c.loop.found (sym c.is_standard.ensures ∙ c.if-is_standard.false) unknown (sym c.is_lost_left.ensures.left ∙ c.if-is_lost_left.true))

pub loop-preserved-in-Err : goal.loop-preserved-in-Err
loop-preserved-in-Err g c =
    let unknown = rw (c.is_followed.ensures, c.as_slice.ensures.value) at c.in-Err.ensures.lost in
    begins-then _ _ _ _ _ _ _ _ (rw (ap spots_of c.in-Some.ensures.items) at c.loop.invariant)
    (finds-lost _ _ _ _ _ _ _ (sym c.is_standard.ensures ∙ c.if-is_standard.false) unknown (sym c.is_lost_left.ensures.left ∙ c.if-is_lost_left.false) c.miss.ensures.names c.in_ok-miss-in-Err.ensures.unread)

pub loop-preserved : goal.loop-preserved
loop-preserved g c = begins-then _ _ _ _ _ _ _ _ (rw (ap spots_of c.in-Some.ensures.items) at c.loop.invariant) c.in_ok-take.ensures.finds

pub returns-in_default : goal.returns-in_default
returns-in_default g c =
    let gone : length c.loop.pending.items ≡ 0 = search rules in
    record { found = begins-end _ _ _ _ _ (rw (ap spots_of (nil_from_length c.loop.pending.items gone)) at c.loop.invariant) }
