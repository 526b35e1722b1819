-- One read behind the bytes that are kept.
use Rattle.std.proofs.Common.{◌+◌, ◌++◌, length, refl, sym, ap, subst, arith, ◌∙◌, length-append}
use Rattle.aho_stream.specs.After.{EndsWith}
use Rattle.aho_cover.specs.Progress.{walk_end}
use Rattle.aho_cover.proofs.Copied.{ends-append}
use Rattle.aho_cover.proofs.Sound.{last-waits, sound-read}
use Rattle.aho_cover.proofs.refill.refill.Goals as goal

pub returns-in_err-filled-clause-takes : goal.returns-in_err-filled-clause-takes
returns-in_err-filled-clause-takes g c =
    let s = c.args.progress.now in
    let gained = c.in_err-filled.ensures.gained in
    let kept = c.make_room.new.buffer.bytes in
    record {
      bytes = gained.bytes;
      given = gained.given;
      count = omega (arith, c.in_err-filled.ensures.nothing, ap length gained.held, length-append kept gained.bytes);
      last = λ given ends. subst (EndsWith (given ++ gained.bytes)) (sym gained.held) (ends-append given kept gained.bytes (c.make_room.ensures.last given ends));
      others = refl;
      least = gained.least ∙ c.make_room.ensures.least;
    }

pub returns-clause-sound : goal.returns-clause-sound
returns-clause-sound g c =
    let s = c.args.progress.now in
    let gained = c.in_ok-filled.ensures.gained in
    sound-read s (walk_end s) c.requires.sound (last-waits s) c.requires.near c.requires.fed c.fill_once.new.self (s.read + c.in_ok-filled.filled.read) c.in_ok-filled.filled.read refl
    (omega (arith, c.in_ok-filled.ensures.told, c.in_ok-filled.ensures.limited)) (gained.least ∙ c.make_room.ensures.least) (omega (arith, c.in_ok-filled.ensures.told, c.make_room.ensures.kept))

pub returns-clause-takes : goal.returns-clause-takes
returns-clause-takes g c =
    let s = c.args.progress.now in
    let gained = c.in_ok-filled.ensures.gained in
    let kept = c.make_room.new.buffer.bytes in
    record {
      bytes = gained.bytes;
      given = gained.given;
      count = omega (arith, c.in_ok-filled.ensures.told, ap length gained.held, length-append kept gained.bytes);
      last = λ given ends. subst (EndsWith (given ++ gained.bytes)) (sym gained.held) (ends-append given kept gained.bytes (c.make_room.ensures.last given ends));
      others = refl;
      least = gained.least ∙ c.make_room.ensures.least;
    }
