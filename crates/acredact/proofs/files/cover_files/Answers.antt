-- The pieces are those of the key, or one for each pattern.
use Rattle.acredact.proofs.Common.{None, Some, ap, pieces_of, rules, ◌≡◌}
use Rattle.aho_cover.specs.Pieces.{fixed_rule}
use Rattle.acredact.proofs.files.cover_files.Goals as goal

pub cover_by-requires : goal.cover_by-requires
cover_by-requires g c =
    let named : c.args.job.now.key ≡ Some c.in-Some.key = search rules in
    record { ready = c.requires.ready; covers = c.requires.covers; made = rw (c.requires.covers, named) c.new-names.ensures.rule }

pub cover_by-requires-in-None : goal.cover_by-requires-in-None
cover_by-requires-in-None g c =
    let none : c.args.job.now.key ≡ None = search rules in
    record { ready = c.requires.ready; covers = c.requires.covers; made = rw (c.requires.covers, none) (ap (λ l. fixed_rule (pieces_of l)) c.new-texts.ensures.pieces) }
