-- States of any kind that are held as the words are have the laws.
use Rattle.std.proofs.Common.{◌≡◌, ℕ, ◌+◌, ◌≤◌, Bool, true, List, [], ◌∷◌, ◌++◌, length, map, refl, sym, ◌∙◌, ap, subst}
use Rattle.std.specs.Prelude.{Option, Some, is_none}
use Rattle.aho_core.specs.declared.search.Anchored.{Anchored}
use Rattle.aho_core.specs.declared.search.Anchored.TheVariants.{No, Yes}
use Rattle.aho_core.specs.declared.search.MatchKind.{MatchKind}
use Rattle.aho_laws.proofs.StepLaw.{held_after-push}
use Rattle.aho_laws.proofs.WordAutomaton.{word_automaton}
use Rattle.aho_core.specs.Bytes.{folded}
use Rattle.aho_core.specs.Held.{held_after, is_root}
use Rattle.aho_core.specs.Laws.{BestAfter, Fits, Reads, better, longest, told}
use Rattle.aho_core.specs.MatchList.{matches_of}
use Rattle.aho_core.specs.Patterns.{Patterns}
use Rattle.aho_core.specs.Step.{follow}

-- an automaton has the laws where its held states list what the words' states do, are dead where those are, and are starts
-- only where those are the root and they are held before the first byte
pub reads_by_words : {S : Type 0} (p : Patterns) (kind : MatchKind) (lengths : List ℕ) (held : Anchored → List ℕ → S → Type 0) (list : S → List ℕ) (dead starts : S → Bool)
    → kind ≡ p.kind → lengths ≡ map length p.words
    → ((anchored : Anchored) (w : List ℕ) (s : S) → held anchored w s → list s ≡ matches_of p (held_after p anchored w))
    → ((anchored : Anchored) (w : List ℕ) (s : S) → held anchored w s → dead s ≡ is_none (held_after p anchored w))
    → ((s : S) → dead s ≡ true → list s ≡ [])
    → ((w : List ℕ) (s : S) → held No w s → starts s ≡ true → held No [] s × (held_after p No w ≡ Some []))
    → Reads p kind lengths held list dead starts
reads_by_words p kind lengths held list dead starts kind_is lengths_are lists dies none begun =
    let r = word_automaton p in
    record {
      kind_is = kind_is;
      lengths_are = lengths_are;
      listed = λ anchored w s h. subst (λ (ks : List ℕ). Fits lengths (length w) ks) (sym (lists anchored w s h)) (subst (λ (ns : List ℕ). Fits ns (length w) (matches_of p (held_after p anchored w))) (sym lengths_are) (r.listed anchored w (held_after p anchored w) refl));
      at_start = λ anchored s h.
          subst (λ (ks : List ℕ). BestAfter p anchored [] (told lengths anchored 0 0 ks)) (sym (lists anchored [] s h))
          (subst (λ (ns : List ℕ). BestAfter p anchored [] (told ns anchored 0 0 (matches_of p (held_after p anchored [])))) (sym lengths_are) (r.at_start anchored (held_after p anchored []) refl));
      after_byte = λ anchored w x s b h best.
          subst (λ (ks : List ℕ). BestAfter p anchored (w ++ x ∷ []) (better kind b (told lengths anchored 0 (length w + 1) ks))) (sym (lists anchored (w ++ x ∷ []) s h))
          (subst (λ (k : MatchKind). BestAfter p anchored (w ++ x ∷ []) (better k b (told lengths anchored 0 (length w + 1) (matches_of p (held_after p anchored (w ++ x ∷ [])))))) (sym kind_is)
          (subst (λ (ns : List ℕ). BestAfter p anchored (w ++ x ∷ []) (better p.kind b (told ns anchored 0 (length w + 1) (matches_of p (held_after p anchored (w ++ x ∷ [])))))) (sym lengths_are)
          (r.after_byte anchored w x (held_after p anchored (w ++ x ∷ [])) b refl best)));
      dead_lists_none = none;
      near = λ w s m other h alive best.
          subst (λ (ns : List ℕ). length w ≤ m.start + longest ns) (sym lengths_are)
          (r.near w (held_after p No w) m (λ e. other (kind_is ∙ e)) refl (sym (dies No w s h) ∙ alive) best);
      anchored_near = λ w s h alive. subst (λ (ns : List ℕ). length w ≤ longest ns) (sym lengths_are) (r.anchored_near w (held_after p Yes w) refl (sym (dies Yes w s h) ∙ alive));
      dead_keeps = λ anchored w v s b h d best. r.dead_keeps anchored w v (held_after p anchored w) b refl (sym (dies anchored w s h) ∙ d) best;
      dead_is = λ w s other h. dies No w s h;
      lists = λ w s is h. lists No w s h ∙ r.lists w (held_after p No w) (sym kind_is ∙ is) refl;
      anchored_lists = λ w s is h alive. lists Yes w s h ∙ r.anchored_lists w (held_after p Yes w) (sym kind_is ∙ is) refl (sym (dies Yes w s h) ∙ alive);
      anchored_dead = λ x w s is h. dies Yes (x ∷ w) s h ∙ r.anchored_dead x w (held_after p Yes (x ∷ w)) (sym kind_is ∙ is) refl;
      start_again = λ w s h e. (begun w s h e).0;
      start_apart = λ w v s m h e o past. r.start_apart w v (held_after p No w) m refl (ap is_root (begun w s h e).1) o past;
    }

-- a state is held after a word where it is valid and has the word of the state that is held
abbrev pub HeldBy : {S : Type 0} → Patterns → (Anchored → S → Type 0) → (S → Option (List ℕ)) → Anchored → List ℕ → S → Type 0
HeldBy p valid word anchored w s = valid anchored s × (word s ≡ held_after p anchored w)

module _ {S : Type 0} (p : Patterns) (valid : Anchored → S → Type 0) (word : S → Option (List ℕ)) where
  -- a step
  pub held_by_step : (anchored : Anchored) (w : List ℕ) (x : ℕ) (s t : S) → HeldBy p valid word anchored w s → valid anchored t → word t ≡ follow p anchored (word s) (folded p x) → HeldBy p valid word anchored (w ++ x ∷ []) t
  held_by_step anchored w x s t h ok e = (ok, e ∙ ap (λ (u : Option (List ℕ)). follow p anchored u (folded p x)) h.1 ∙ sym (held_after-push p anchored w x))

  -- the laws
  pub reads_by_names : (kind : MatchKind) (lengths : List ℕ) (list : S → List ℕ) (dead starts : S → Bool) → kind ≡ p.kind → lengths ≡ map length p.words
      → ((anchored : Anchored) (s : S) → valid anchored s → list s ≡ matches_of p (word s))
      → ((anchored : Anchored) (s : S) → valid anchored s → dead s ≡ is_none (word s))
      → ((s : S) → dead s ≡ true → list s ≡ [])
      → ((s : S) → valid No s → starts s ≡ true → word s ≡ Some [])
      → Reads p kind lengths (HeldBy p valid word) list dead starts
  reads_by_names kind lengths list dead starts kind_is lengths_are lists dies none begun =
      reads_by_words p kind lengths (HeldBy p valid word) list dead starts kind_is lengths_are
      (λ anchored w s h. lists anchored s h.0 ∙ ap (matches_of p) h.1)
      (λ anchored w s h. dies anchored s h.0 ∙ ap is_none h.1)
      none
      (λ w s h e. let root = begun s h.0 e in ((h.0, root), sym h.1 ∙ root))
