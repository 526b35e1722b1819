-- The patterns of a source more were read.
use Rattle.acgrep.proofs.Common.{Source, common_steps, get_or}
use Rattle.std.proofs.Common.{◌+◌, ◌∷◌, ◌≡◌, [], arith, drop}
use Rattle.acgrep.specs.Arguments.{origin_of}
use Rattle.acgrep.specs.Runs.{AreOf, origins_of}
use Rattle.acgrep.specs.Told.{source_names}
use Rattle.acgrep.specs.declared.arguments.Source.TheVariants.{Text}
use Rattle.acgrep.proofs.Gathered.{all_given, more_given}
use Rattle.acgrep.proofs.Told.{source-among}
use Rattle.acgrep.proofs.keys.read_keys.Goals as goal

-- any source
abbrev other : Source
other = Text (record { ref_ptr = (0, 0); now = [] })

pub loop-source-preserved : goal.loop-source-preserved
loop-source-preserved g c =
    let sources = c.args.sources.now in
    let i = c.loop-source.source-index in
    let cut : drop i sources ≡ get_or sources i other ∷ drop (i + 1) sources = grind (arith, common_steps, c.loop-source-test.true) in
    record {
      ends = c.in-Ok.ensures.ends;
      words = more_given (AreOf (g.F.Open.holds c.args.files.now)) (origins_of c.args.sources.now) (g.R.Read.remaining c.args.input.now) (origin_of (get_or sources i other)) (origins_of (drop (i + 1) sources))
          (g.R.Read.remaining c.loop-source.input) (g.R.Read.remaining c.read_source.new.input) _ _ (rw cut at c.loop-source.invariant.words) c.in-Ok.ensures.added;
      told = c.loop-source.invariant.told;
    }

pub returns-in-Err-clause-told : goal.returns-in-Err-clause-told
returns-in-Err-clause-told g c none =
    let all = source_names (origins_of c.args.sources.now) in
    rw c.loop-source.invariant.told at (c.tell_source.ensures.told all (source-among c.args.sources.now c.loop-source.source-index other c.loop-source-test.true))

pub returns-clause-words : goal.returns-clause-words
returns-clause-words g c =
    all_given (AreOf (g.F.Open.holds c.args.files.now)) (origins_of c.args.sources.now) (g.R.Read.remaining c.args.input.now) origin_of (drop c.loop-source.source-index c.args.sources.now) (g.R.Read.remaining c.loop-source.input) _
    (grind (arith, common_steps, c.loop-source-test.false)) c.loop-source.invariant.words
