-- It looks for what was loaded.
use Rattle.acredact.proofs.Common.{all_given, check_load, refl}
use Rattle.acredact.specs.RuledChecks.{lines_looked_for}
use Rattle.acredact.proofs.ruled_check.looker_by.Goals as goal

pub returns : goal.returns
returns g c =
    let cover = c.in_ok-cover.ensures in
    record {
      by = record {
        lines = lines_looked_for (all_given c.args.given.now) (check_load c.args.secrets.now c.args.rules.now);
        is = refl;
        can = cover.ready;
        searched = cover.searched _ c.requires.of;
        covers = rw (cover.words, cover.rules, cover.most, c.has-words.ensures.has, c.most_of-most.ensures.most) refl;
        labels = rw (c.as_slice-rules.ensures.same, c.most_of-most.ensures.most) refl;
      };
    }
