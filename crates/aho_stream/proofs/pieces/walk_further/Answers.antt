use Rattle.std.proofs.Common.{◌≡◌, ◌-◌, ap, sym, subst, arith, List, ℕ, length}
use Rattle.std.specs.Prelude.{slice_range}
use Rattle.aho_automaton.proofs.Places.{length_part}
use Rattle.aho_stream.specs.After.{word_of}
use Rattle.aho_stream.specs.Walking.{WalksOn}
use Rattle.aho_stream.proofs.Afters.{after_walked}
use Rattle.aho_stream.proofs.pieces.walk_further.Goals as goal

pub walk_on-walked-requires-clause-held : goal.walk_on-walked-requires-clause-held
walk_on-walked-requires-clause-held g c =
    let (p, given, of, a) = c.requires.after in
    (p, word_of c.args.progress.now given, of, length_part given _ _ (omega (arith, a.walked_read, a.count)), a.held_is)

pub returns-clause-after : goal.returns-clause-after
returns-clause-after g c p given of a =
    let s = c.args.progress.now in
    let walked = c.walk_on-walked.ensures in
    let result = c.walk_on-walked.result in
    let rest : c.bytes-bytes.result.now ≡ slice_range given s.walked s.read = c.bytes-bytes.ensures.part given (sym a.count) a.last in
    let long : length (slice_range given s.walked s.read) ≡ s.read - s.walked = length_part given s.walked s.read (omega (arith, a.count)) in
    let word : length (word_of s given) ≡ s.walked - s.origin = length_part given s.origin s.walked (omega (arith, a.walked_read, a.count)) in
    let walks = subst (λ (bytes : List ℕ). WalksOn p (g.W.Of.Automaton.lengths (g.W.Walk.of c.args.walk.now)) (g.W.Of.Automaton.held (g.W.Walk.of c.args.walk.now) p) (word_of s given) bytes result) rest
    (walked.walks p (word_of s given) of word a.held_is a.best_is) in
    after_walked _ _ p _ _ s given result a c.requires.open
    (omega (arith, walked.within, ap length rest, long, a.walked_read)) walked.valid walked.cost walks
