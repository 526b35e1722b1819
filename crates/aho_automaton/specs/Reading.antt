-- How far a text was read, and how often.
use Rattle.std.specs.Prelude.{◌≡◌, ℕ, ◌+◌, ◌-◌, ◌≤◌, ◌⊎◌, Bool}
use Rattle.aho_core.specs.Laws.{furthest, longest}
use Rattle.aho_core.specs.Occurrence.{Occurrence}
use Rattle.aho_prefilter.specs.declared.text.Text.{Ghosts as Texts}
use Rattle.aho_automaton.specs.declared.automaton.Automaton.{Ghosts as Automata}

-- from one place that may be read next to another: nothing was read, or nothing past the limit
abbrev pub ReadsUpTo : ℕ → ℕ → ℕ → Type 0
ReadsUpTo next next' limit = (next' ≡ next) ⊎ (next' ≤ limit)

-- how many bytes a text has handed out from one time to a later one
abbrev pub bytes_read : {S : Type 0} → Texts S → S → S → ℕ
bytes_read text before after = text.reads after - text.reads before

-- a text handed out bytes of a span, each at most once: the place that may be read next does not fall, does not pass the span's
-- end, and there were no more reads than the span has bytes
pub record ReadsEachOnce {S : Type 0} (text : Texts S) (before after : S) (start end : ℕ) : Type 0 where
  pub same : text.bytes after ≡ text.bytes before
  pub forward : text.next before ≤ text.next after
  pub inside : ReadsUpTo (text.next before) (text.next after) end
  pub once : bytes_read text before after ≤ end - start

-- nothing was read, or nothing past the place that a search needs at most to know that it found this match
abbrev pub ReadsNear : {A S : Type 0} → Automata A → A → Texts S → S → S → Bool → Occurrence → Type 0
ReadsNear automata a text before after earliest m =
    ReadsUpTo (text.next before) (text.next after) (furthest (automata.kind a) earliest (automata.lengths a) m)

-- nothing was read, or nothing further from the start of a search than the longest pattern and one byte
abbrev pub ReadsLongest : {A S : Type 0} → Automata A → A → Texts S → S → S → ℕ → Type 0
ReadsLongest automata a text before after start =
    ReadsUpTo (text.next before) (text.next after) (start + longest (automata.lengths a) + 1)
