-- Walks from line to line, one behind another.
use Rattle.acgrep.proofs.Common.{Appends, Appends-trans, Context, Job, Patterns, Place, State, cases_Bool, common_steps, true≢false}
use Rattle.std.proofs.Common.{◌++◌, ◌∙◌, ◌∷◌, ◌≡◌, Bool, List, Option, [], ap, append-nil, append_assoc, arith, false, inl, inr, refl, subst, sym, true, ℕ}
use Rattle.std.specs.Prelude.{nat_lt}
use Rattle.acgrep.specs.Contexts.{PassesBy, Steps, Walk, WalksBegun, WalksLines, WalksOver, WalksText, behind_chosen, behind_passed, walk_of}
use Rattle.acgrep.specs.Lines.{EndsLine, lines}
use Rattle.acgrep.specs.Written.{IsPassedOver, IsSettled, TellsOfLines, after_line, is_full}
use Rattle.acgrep.proofs.Begun.{begins_behind}
use Rattle.acgrep.proofs.LineLists.{lines_append}

module _ (p : Patterns) (job : Job) (context : Context) where
  pub walks_append : (ls ms : List (List ℕ)) (w w' w'' : Walk) (bytes more : List ℕ) → WalksOver p job context w ls bytes w' → WalksOver p job context w' ms more w''
      → WalksOver p job context w (ls ++ ms) (bytes ++ more) w''
  walks_append [] ms w w' w'' bytes more (none, same) behind = rw none (rw same at behind)
  walks_append (line ∷ rest) ms w w' w'' bytes more (shown, others, between, step, walks, is) behind =
      (shown, others ++ more, between, step, walks_append rest ms between w' w'' others more walks behind, ap (λ (l : List ℕ). l ++ more) is ∙ append_assoc shown others more)

  pub walks_one : (w w' : Walk) (line bytes : List ℕ) → Steps p job context w line bytes w' → WalksOver p job context w (line ∷ []) bytes w'
  walks_one w w' line bytes step = (bytes, [], w', step, (refl, refl), sym (append-nil bytes))

  pub lines_join : (w w' w'' : Walk) (x y z : Option (List ℕ)) (ls ms : List (List ℕ)) → WalksLines p job context w w' x y ls → WalksLines p job context w' w'' y z ms
      → WalksLines p job context w w'' x z (ls ++ ms)
  lines_join w w' w'' x y z ls ms one other = record {
    bytes = one.bytes ++ other.bytes;
    walks = walks_append ls ms w w' w'' one.bytes other.bytes one.walks other.walks;
    written = Appends-trans x y z one.bytes other.bytes one.written other.written;
  }

  pub lines_none : (w : Walk) (x y : Option (List ℕ)) → Appends x y [] → WalksLines p job context w w x y []
  lines_none w x y written = record { bytes = []; walks = (refl, refl); written = written }

  -- behind a line that is not chosen
  by_same : (due : Bool) (w w' : Walk) (line bytes : List ℕ) → PassesBy p job context w line bytes w' due → (w'.selected ≡ w.selected) × (w'.place ≡ after_line w.place line)
  by_same true w w' line bytes (shows, is) = (ap (λ (v : Walk). v.selected) is, ap (λ (v : Walk). v.place) is)
  by_same false w w' line bytes (none, is) = (ap (λ (v : Walk). v.selected) is, ap (λ (v : Walk). v.place) is)

  -- where so many lines are selected as are asked for and none is due, nothing more is told
  pub walks_full : (ls : List (List ℕ)) (w : Walk) → is_full job.most w.selected ≡ true → w.due ≡ 0
      → (w' : Walk) × WalksOver p job context w ls [] w' × (w'.selected ≡ w.selected)
  walks_full [] w full past = (w, (refl, refl), refl)
  walks_full (line ∷ rest) w full past =
      let next = behind_passed context w line in
      let (w', walks, is) = walks_full rest next full past in
      (w', ([], [], next, (inr (record { passed = inl full; passes = subst (PassesBy p job context w line [] next) (sym (ap (nat_lt 0) past)) (refl, refl) })), walks, refl), is)

  -- a beginning of what is told, behind lines of which all is
  pub begun_behind : (w w' : Walk) (x y z : Option (List ℕ)) (ls ms : List (List ℕ)) → WalksLines p job context w w' x y ls → WalksBegun p job context w' y z ms
      → WalksBegun p job context w x z (ls ++ ms)
  begun_behind w w' x y z ls ms one begins = begins_behind _ _ _ _ _ _ _ one.bytes
      (λ first all (end, walks). (end, walks_append _ first _ _ end one.bytes all one.walks walks)) one.written begins

  pub text_lines : (a b : State) (x y : Option (List ℕ)) (text : List ℕ) (one : WalksText p job context a b x y text) → (IsSettled job b → ⊥) → lines job.style.ending text ≡ one.searched
  text_lines a b x y text one goes = grind (arith, common_steps)

  -- a text and one behind it
  pub text_join : (a b c : State) (x y y' z : Option (List ℕ)) (front back : List ℕ) → Appends y y' [] → EndsLine job.style.ending front → (IsSettled job b → ⊥)
      → WalksText p job context a b x y front → WalksText p job context b c y' z back → WalksText p job context a c x z (front ++ back)
  text_join a b c x y y' z front back keeps whole goes one other = record {
    left = other.left;
    searched = one.searched ++ other.searched;
    cut = lines_append job.style.ending front back whole ∙ ap (λ (l : List (List ℕ)). l ++ lines job.style.ending back) (text_lines a b x y front one goes)
        ∙ ap (λ (l : List (List ℕ)). one.searched ++ l) other.cut ∙ sym (append_assoc one.searched other.searched (lines job.style.ending other.left));
    tells = lines_join (walk_of a) (walk_of b) (walk_of c) x y z one.searched other.searched one.tells
        (record { bytes = other.tells.bytes; walks = other.tells.walks; written = Appends-trans y y' z [] other.tells.bytes keeps other.tells.written });
    ends = other.ends;
  }

  -- where so many are selected as are asked for no further one is
  pub walks_same : (ls : List (List ℕ)) (w w' : Walk) (bytes : List ℕ) → is_full job.most w.selected ≡ true → WalksOver p job context w ls bytes w' → w'.selected ≡ w.selected
  walks_same [] w w' bytes full (none, same) = ap (λ (v : Walk). v.selected) same
  walks_same (line ∷ rest) w w' bytes full (shown, more, between, inl takes, walks, is) = absurd (true≢false (sym full ∙ takes.more))
  walks_same (line ∷ rest) w w' bytes full (shown, more, between, inr passes, walks, is) =
      let (same, there) = by_same (nat_lt 0 w.due) w between line shown passes.passes in
      walks_same rest between w' more (ap (is_full job.most) same ∙ full) walks ∙ same

  -- the same lines are selected where none around them is written
  pub walks_tells : (ls : List (List ℕ)) (w w' : Walk) (bytes : List ℕ) → WalksOver p job context w ls bytes w' → (told : List ℕ) × TellsOfLines p job w.place w.selected ls told w'.selected
  walks_tells [] w w' bytes (none, same) = ([], (refl, ap (λ (v : Walk). v.selected) same))
  walks_tells (line ∷ rest) w w' bytes (shown, more, between, inl takes, walks, is) =
      let (before, one, each, shows, cut) = takes.shows in
      let (told, tells) = walks_tells rest (behind_chosen context w line) w' more (subst (λ (v : Walk). WalksOver p job context v rest more w') takes.behind walks) in
      (one ++ told, inr (takes.more, inl (takes.selected, (one, told, shows, tells, refl))))
  walks_tells (line ∷ rest) w w' bytes (shown, more, between, inr passes, walks, is) =
      elim (cases_Bool (is_full job.most w.selected)) [
        | inl full ↦ ([], inl (full, refl, walks_same (line ∷ rest) w w' bytes full (shown, more, between, inr passes, walks, is)))
        | inr goes ↦
            let passed : IsPassedOver p job.fit job.invert line = elim passes.passed [ inl full ↦ absurd (true≢false (sym full ∙ goes)) | inr passed ↦ passed ] in
            let (same, there) = by_same (nat_lt 0 w.due) w between line shown passes.passes in
            let (told, tells) = walks_tells rest between w' more walks in (
              told,
              inr (
                goes,
                inr (
                  passed,
                  subst (λ (n : ℕ). TellsOfLines p job (after_line w.place line) n rest told w'.selected) same
                      (subst (λ (at : Place). TellsOfLines p job at between.selected rest told w'.selected) there tells),
                ),
              ),
            )
      ]
