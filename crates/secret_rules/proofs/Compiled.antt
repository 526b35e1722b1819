-- A compiled expression matches as the grammar reads its text, and has as many groups.
use Rattle.std.proofs.Common.{◌≡◌, ◌≢◌, ◌⊎◌, ℕ, ◌<◌, ◌≤◌, List, length, Option, None, Some, IsSomeAnd, IfSome, option_map, unwrap_or, sym, ap, arith, inl, inr}
use Rattle.std.proofs.lemmas.Option.{none-some}
use Rattle.regex_hir.specs.declared.hir.Hir.{Hir}
use Rattle.regex_syntax.specs.declared.error.ErrorKind.{ErrorKind}
use Rattle.regex_syntax.specs.declared.error.ErrorKind.TheVariants.{OutOfMemory, NestLimitExceeded}
use Rattle.regex_syntax.specs.Verdict.{Refuses}
use Rattle.regex_hir.specs.Re.{Re}
use Rattle.regex.specs.Patterns.{SameCaptures, empty}
use Rattle.regex_syntax.specs.Verdict.{Reads}
use Rattle.regex_syntax.specs.Brackets.{Nested}
use Rattle.regex_syntax.specs.Grammar.{Names, group_count}
use Rattle.regex.specs.Bytes.{regex_pattern, regex_source, regex_config, regex_names, IsReadFromSource}
use Rattle.regex.specs.declared.bytes.regex.Regex.{Regex}
use Rattle.secret_rules.specs.Expressions.{IsExpression, ascii_config, expression_of, group_total}

pattern_read : (o : Option (Nested Re × Names)) (most : ℕ) (a : Re) (names : Names) →
    IsSomeAnd o (λ (re, found). (re.depth ≤ most) × SameCaptures a re.value × (names ≡ found) × (group_count a ≤ length names)) →
    SameCaptures a (unwrap_or (option_map (λ (re, _). re.value) o) empty)
pattern_read None most a names p = absurd p
pattern_read (Some found) most a names p = p.1

names_read : (o : Option (Nested Re × Names)) (most : ℕ) (a : Re) (names : Names) →
    IsSomeAnd o (λ (re, found). (re.depth ≤ most) × SameCaptures a re.value × (names ≡ found) × (group_count a ≤ length names)) →
    length names ≡ unwrap_or (option_map (λ (_, found). length found) o) 0
names_read None most a names p = absurd p
names_read (Some found) most a names p = ap length p.2

module _ (r : Regex) (config : regex_config r ≡ ascii_config) (is_read : IsReadFromSource r) where
  pub regex_pattern-of_source : SameCaptures (regex_pattern r) (expression_of (regex_source r))
  unfolding Reads expression_of
  regex_pattern-of_source = pattern_read _ _ _ _ (rw config at is_read)

  pub regex_names-of_source : length (regex_names r) ≡ group_total (regex_source r)
  unfolding Reads group_total
  regex_names-of_source = names_read _ _ _ _ (rw config at is_read)

depth_read : (o : Option (Nested Re × Names)) (most : ℕ) (a : Re) (names : Names) →
    IsSomeAnd o (λ (re, found). (re.depth ≤ most) × SameCaptures a re.value × (names ≡ found) × (group_count a ≤ length names)) →
    IsSomeAnd o (λ (re, _). re.depth ≤ most)
depth_read None most a names p = absurd p
depth_read (Some found) most a names p = p.0

none_refused : (o : Option (Nested Re × Names)) (most : ℕ) (kind : ErrorKind) →
    (kind ≡ OutOfMemory) ⊎ ((o ≡ None) ⊎ ((kind ≡ NestLimitExceeded) × IfSome o (λ (re, _). most < re.depth))) →
    kind ≢ OutOfMemory → IsSomeAnd o (λ (re, _). re.depth ≤ most) → ⊥
none_refused o most kind (inl memory) not is = not memory
none_refused None most kind (inr why) not is = is
none_refused (Some found) most kind (inr (inl none)) not is = none-some _ (sym none)
none_refused (Some found) most kind (inr (inr deep)) not is = omega (arith, deep.1, is)

-- what the parser says of a text
module _ (source : List ℕ) where
  pub IsExpression-read : (hir : Hir) (names : Names) → Reads ascii_config source hir names → IsExpression source
  unfolding Reads
  IsExpression-read hir names read = depth_read _ _ _ _ read

  pub group_total-read : (hir : Hir) (names : Names) → Reads ascii_config source hir names → length names ≡ group_total source
  unfolding Reads group_total
  group_total-read hir names read = names_read _ _ _ _ read

  pub IsExpression-refused : (kind : ErrorKind) → Refuses ascii_config source kind → kind ≢ OutOfMemory → ¬ (IsExpression source)
  unfolding Refuses
  IsExpression-refused kind refused not = none_refused _ _ kind refused not
