-- A name more was told.
use Rattle.acgrep.proofs.Common.{nil_from_length}
use Rattle.std.proofs.Common.{◌∷◌, ◌≡◌, ap, refl}
use Rattle.acgrep.specs.Folders.{missed_of}
use Rattle.acgrep.proofs.Reaching.{told-each, told-hushed}
use Rattle.acgrep.proofs.below.tell_each.Goals as goal

pub loop-first-preserved : goal.loop-first-preserved
loop-first-preserved g c = λ after are.
    let cut : missed_of c.loop-first.rest.now ≡ c.in-Some.first.now.name.items ∷ missed_of c.in-Some.behind.now = ap missed_of c.in-Some.ensures.cases.0 in
    c.loop-first.invariant after (rw cut (c.tell_file.new.errors, rw c.as_slice.ensures.value at c.tell_file.ensures.told, are))

pub returns-then-hushed : goal.returns-then-hushed
returns-then-hushed g c = record { told = rw c.if-hushed.true (told-hushed g.E.Sink (missed_of c.args.unread.now) c.args.errors.now) }

pub returns : goal.returns
returns g c =
    let none = ap missed_of (nil_from_length c.loop-first.rest.now c.in_default.ensures.cases) in
    record { told = rw c.if-hushed.false (told-each g.E.Sink (missed_of c.args.unread.now) c.args.errors.now c.loop-first.errors (c.loop-first.invariant c.loop-first.errors (rw none refl))) }
