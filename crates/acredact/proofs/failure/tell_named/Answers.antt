-- A message in one part, or in three.
use Rattle.acredact.proofs.Common.{append-nil, append_assoc, as_shown, rules, tells-later, true, ◌++◌, ◌≡◌}
use Rattle.std.proofs.Common.{codes}
use Rattle.acredact.proofs.failure.tell_named.Goals as goal

pub returns-then-is_plain : goal.returns-then-is_plain
returns-then-is_plain g c =
    let plain : c.is_plain.result ≡ true = search rules in
    record { told = rw (c.is_plain.ensures.plain plain) c.write.ensures.told }

pub returns : goal.returns
returns g c = record {
  told = rw (append-nil c.args.before.now, append_assoc c.args.before.now (as_shown c.args.name.now) (c.args.behind.now ++ codes "\n")) at (tells-later g.E.Sink (tells-later g.E.Sink c.write-2.ensures.told c.write_shown.ensures.told) c.write-3.ensures.told);
}
