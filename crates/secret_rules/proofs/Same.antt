-- What is said of one setting is said of the same.
use Rattle.std.proofs.Common.{◌≡◌, ℕ, [], List, ◌∷◌, ◌++◌, ◌∙◌, refl, ap, subst}
use Rattle.std.specs.Prelude.{Result, IfErr}
use Rattle.aho_automaton.specs.declared.automaton.Automaton.{Ghosts as Automata}
use Rattle.aho_devices.specs.declared.device.Sink.{Ghosts as SinkGhosts}
use Rattle.aho_devices.specs.declared.device.Source.{Ghosts as SourceGhosts}
use Rattle.aho_cover.specs.Pieces.{PieceRule}
use Rattle.aho_cover.specs.declared.pieces.Pieces.{Ghosts as PieceGhosts}
use Rattle.aho_devices.specs.Counts.{counted}
use Rattle.aho_devices.specs.Refusals.{is_write_fault, is_write_of_nothing}
use Rattle.secret_rules.specs.Covering.{seen_line}
use Rattle.secret_rules.specs.LineCovers.{AreSearchedFor, LeavesLines, of_devices}
use Rattle.secret_rules.specs.Lines.{Line}
use Rattle.secret_rules.specs.OpenLines.{GoesOnBehind, IsLineRefusal, IsSetting, StandsBehind, StopsInLine, StopsInLines, TellsLine, WritesLine}
use Rattle.secret_rules.specs.declared.error.LineError.{LineError}
use Rattle.secret_rules.specs.declared.open_line.OpenLine.{OpenLine}
use Rattle.secret_rules.specs.declared.open_line.Setting.{Setting}
use Rattle.secret_rules.specs.declared.rule.Rule.{Rule}

module _ {A : Type 0} (G : Automata A) (s s' : Setting A) (rs rs' : List Rule) (r r' : PieceRule) (same_setting : s ≡ s') (same_rules : rs ≡ rs') (same_rule : r ≡ r') where
  by-parts : (P : Setting A → List Rule → PieceRule → Type 0) → P s rs r → P s' rs' r'
  by-parts P h = subst (λ (x : Setting A). P x rs' r') same_setting (subst (λ (x : List Rule). P s x r') same_rules (subst (λ (x : PieceRule). P s rs x) same_rule h))

  module _ {W : Type 0} (K : SinkGhosts W) (sink sink' : W) (counts counts' : List ℕ) (before : List (List ℕ)) where
    pub writes-same : (line : Line) → WritesLine K (AreSearchedFor G s.automaton) s.words rs s.most r sink sink' counts counts' before line
        → WritesLine K (AreSearchedFor G s'.automaton) s'.words rs' s'.most r' sink sink' counts counts' before line
    writes-same line h = by-parts (λ x y z. WritesLine K (AreSearchedFor G x.automaton) x.words y x.most z sink sink' counts counts' before line) h

    pub stops-same : (line : Line) → StopsInLine K (AreSearchedFor G s.automaton) s.words rs s.most r sink sink' counts counts' before line
        → StopsInLine K (AreSearchedFor G s'.automaton) s'.words rs' s'.most r' sink sink' counts counts' before line
    stops-same line h = by-parts (λ x y z. StopsInLine K (AreSearchedFor G x.automaton) x.words y x.most z sink sink' counts counts' before line) h

    pub all-stop-same : (read bytes : List ℕ) → StopsInLines K (AreSearchedFor G s.automaton) s.words rs s.most r sink sink' counts counts' before read bytes
        → StopsInLines K (AreSearchedFor G s'.automaton) s'.words rs' s'.most r' sink sink' counts counts' before read bytes
    all-stop-same read bytes h = by-parts (λ x y z. StopsInLines K (AreSearchedFor G x.automaton) x.words y x.most z sink sink' counts counts' before read bytes) h

    pub goes-same : {P : Type 0} (Q : PieceGhosts P) (line' : OpenLine A) (pieces' : P) (read bytes : List ℕ)
        → GoesOnBehind K Q (AreSearchedFor G s.automaton) s.words rs s.most r sink sink' counts counts' line' pieces' before read bytes
        → GoesOnBehind K Q (AreSearchedFor G s'.automaton) s'.words rs' s'.most r' sink sink' counts counts' line' pieces' before read bytes
    goes-same Q line' pieces' read bytes h = by-parts (λ x y z. GoesOnBehind K Q (AreSearchedFor G x.automaton) x.words y x.most z sink sink' counts counts' line' pieces' before read bytes) h

-- and so is what a cover leaves
pub leaves-same : {A R W : Type 0} (G : Automata A) (s s' : Setting A) (rs rs' : List Rule) (r : PieceRule) (S : SourceGhosts R) (K : SinkGhosts W) (source source' : R) (sink sink' : W) (counts counts' : List ℕ) (result : Result (Unit {0}) LineError)
    → s ≡ s' → rs ≡ rs' → LeavesLines S K (AreSearchedFor G s.automaton) s.words rs s.most r source source' sink sink' counts counts' result
    → LeavesLines S K (AreSearchedFor G s'.automaton) s'.words rs' s'.most r source source' sink sink' counts counts' result
leaves-same G s s' rs rs' r S K source source' sink sink' counts counts' result same_setting same_rules h =
    by-parts G s s' rs rs' r r same_setting same_rules refl (λ x y z. LeavesLines S K (AreSearchedFor G x.automaton) x.words y x.most z source source' sink sink' counts counts' result) h

-- and so are the numbers of a setting
pub setting-same : {A : Type 0} (G : Automata A) (s s' : Setting A) (rs rs' : List Rule) → s ≡ s' → rs ≡ rs' → IsSetting G s rs → IsSetting G s' rs'
setting-same G s s' rs rs' same_setting same_rules is = subst (λ (x : Setting _). IsSetting G x rs') same_setting (subst (IsSetting G s) same_rules is)

-- what rules see of a line
pub stands-same : {A P : Type 0} (Q : PieceGhosts P) (s s' : Setting A) (line : OpenLine A) (pieces : P) (before : List (List ℕ)) (read : List ℕ) → s ≡ s' → StandsBehind Q line pieces (before ++ seen_line s.most read ∷ []) []
    → StandsBehind Q line pieces (before ++ seen_line s'.most read ∷ []) []
stands-same Q s s' line pieces before read same stands = subst (λ (x : Setting _). StandsBehind Q line pieces (before ++ seen_line x.most read ∷ []) []) same stands

-- which errors are told, of a sink that had as many before
pub tells-same : {W : Type 0} (K : SinkGhosts W) (rs rs' : List Rule) (first sink sink' : W) (result : Result (Unit {0}) LineError) → rs ≡ rs' → K.failures sink ≡ K.failures first → K.empty_writes sink ≡ K.empty_writes first
    → TellsLine K rs sink sink' result → TellsLine K rs' first sink' result
tells-same K rs rs' first sink sink' result same_rules failures empty_writes tells = record {
  write_failed = tells.write_failed ∙ ap (counted (is_write_fault (of_devices result))) failures;
  took_nothing = tells.took_nothing ∙ ap (counted (is_write_of_nothing (of_devices result))) empty_writes;
  only = subst (λ (x : List Rule). IfErr result (IsLineRefusal x)) same_rules tells.only;
}
