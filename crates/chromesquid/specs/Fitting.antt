-- How small patterns have to be so that the limits refuse nothing of them.
use Rattle.std.specs.Prelude.{All, List, Some, length, min, sum_by, true, ℕ, ◌*◌, ◌+◌, ◌≡◌, ◌≤◌}
use Rattle.aho_core.specs.MatchList.{matches_of}
use Rattle.aho_core.specs.Patterns.{Patterns}
use Rattle.aho_core.specs.Trie.{is_node}
use Rattle.aho_build.specs.Settings.{in_force}
use Rattle.aho_build.specs.declared.settings.Settings.{Settings}

-- the bytes of all patterns: there are at most as many nonempty nodes
abbrev pub total_bytes : Patterns → ℕ
total_bytes p = sum_by length p.words

-- so many patterns, of so many bytes together, are few enough for the limits in force, where no node lists more than this
pub record FitCounts (settings : Settings) (count total most : ℕ) : Type 0 where
  pub numbers : count ≤ (in_force settings).pattern + 1
  pub transitions : 768 + 2 * total ≤ (in_force settings).id
  pub rows : (min (settings.dense_depth * count) total + 2) * 256 ≤ (in_force settings).id
  pub listed : count + (total + 2) * most ≤ (in_force settings).id

-- so are these patterns, and none of them is too long
pub record FitLimits (settings : Settings) (p : Patterns) (most : ℕ) : Type 0 where
  pub counts : FitCounts settings (length p.words) (total_bytes p) most
  pub lengths : All (λ word. length word ≤ (in_force settings).length) p.words
  pub lists : (word : List ℕ) → is_node p word ≡ true → length (matches_of p (Some word)) ≤ most
