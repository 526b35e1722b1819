-- The end of the stream was seen.
use Rattle.std.proofs.Common.{◌≡◌, ℕ, ◌-◌, Bool, true, false, List, length, refl, ◌∙◌, ap, arith}
use Rattle.aho_core.specs.Patterns.{Patterns}
use Rattle.aho_automaton.specs.declared.automaton.Automaton.{Ghosts as Automata}
use Rattle.aho_cover.specs.declared.progress.CoverProgress.{CoverProgress}
use Rattle.aho_cover.specs.Counting.{Output}
use Rattle.aho_cover.specs.Pieces.{PieceRule}
use Rattle.aho_cover.specs.Progress.{IsSoundCover, waiting, walk_end}
use Rattle.aho_cover.specs.Steps.{CoversOn, KeepsBytes}

-- then no byte waits
none-waits : (words ended : Bool) → ended ≡ true → waiting words ended ≡ 0
none-waits false ended e = refl
none-waits true false e = cc
none-waits true true e = refl

pub end-seen : (s : CoverProgress) → s.ended ≡ true → walk_end s ≡ s.read
end-seen s e = omega (arith, none-waits s.words s.ended e)

-- where nothing is read as much may be walked
pub same-end : (s s' : CoverProgress) → KeepsBytes s s' → walk_end s' ≡ walk_end s
same-end s s' keeps =
    ap (λ (n : ℕ). n - waiting s'.words s'.ended) keeps.read ∙ ap (λ (w : Bool). s.read - waiting w s'.ended) keeps.words ∙ ap (λ (e : Bool). s.read - waiting s.words e) keeps.ended

pub sound-ended : (s : CoverProgress) (at : ℕ) → IsSoundCover s at → IsSoundCover (record s { ended = true }) at
sound-ended s at sound = record {
  small = sound.small;
  walked = sound.walked;
  some = sound.some;
  held = sound.held;
  unwalked = sound.unwalked;
  last_held = sound.last_held;
  since_walked = sound.since_walked;
  copied_walked = sound.copied_walked;
  in_order = sound.in_order;
  behind = sound.behind;
  kept = sound.kept;
  fed_walked = sound.fed_walked;
  fed_first = sound.fed_first;
  fed_within = sound.fed_within;
  fed_held = sound.fed_held;
  whole = sound.whole;
  room = sound.room;
}

pub covers-ended : {A : Type 0} (G : Automata A) (a : A) (rule : PieceRule) (s : CoverProgress) (at : ℕ) (p : Patterns) (haystack : List ℕ) (written : Output) → CoversOn G a rule s at p haystack written → length haystack ≡ s.read → CoversOn G a rule (record s { ended = true }) at p haystack written
covers-ended G a rule s at p haystack written covers all =
    let has = covers.covered in
    record {
      of = covers.of;
      is_held = covers.is_held;
      covered = record {
        given = record { within = has.given.within; last = has.given.last; whole = λ e. all };
        walked_within = has.walked_within;
        far = has.far;
        since_clear = has.since_clear;
        runs = has.runs;
        settled = has.settled;
        before = has.before;
        clear = has.clear;
        fed_clear = has.fed_clear;
        written_is = has.written_is;
      };
    }
