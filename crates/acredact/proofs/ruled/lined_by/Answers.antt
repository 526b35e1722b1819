-- It redacts by what was asked for.
use Rattle.acredact.proofs.Common.{length-map, refl, secret_of}
use Rattle.acredact.proofs.ruled.lined_by.Goals as goal

pub returns : goal.returns
returns g c =
    let cover = c.in_ok-cover.ensures in
    record {
      lined = record {
        can = cover.ready;
        searched = cover.searched _ c.requires.of;
        is = rw (cover.words, cover.rules, cover.most, c.has-words.ensures.has, c.most_of.ensures.most, c.new-pieces.ensures.rule, c.key_by-key.ensures.key, c.has.ensures.has, c.named_count.ensures.count, c.requires.texts, length-map c.args.secrets.now secret_of) refl;
      };
    }
