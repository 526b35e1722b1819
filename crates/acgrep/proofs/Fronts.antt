-- The lines before the first that holds a zero byte, put together from reads.
use Rattle.acgrep.proofs.Common.{Consumes-nil, Consumes-trans, Job, Keeps, Patterns, State, common_steps, nil_from_length}
use Rattle.std.proofs.Common.{◌++◌, ◌-◌, ◌<◌, ◌∙◌, ◌≡◌, ◌≤◌, Bool, List, Option, Some, [], ap, append-nil, append_assoc, arith, drop, inl, inr, length, refl, subst, sym, take, true, ℕ}
use Rattle.acgrep.specs.Binary.{is_text}
use Rattle.acgrep.specs.Contexts.{SearchesText}
use Rattle.acgrep.specs.Filled.{FillsBehind}
use Rattle.acgrep.specs.Guarded.{BeginsBinary, IsZeroLine, SearchesFront, SearchesPast}
use Rattle.acgrep.specs.Lines.{IsEnding}
use Rattle.acgrep.specs.Streamed.{SearchesRead, SearchesWhole, TextIf}
use Rattle.acgrep.specs.Written.{IsSettled}
use Rattle.acgrep.proofs.BinaryLines.{text_joined, text_parts}
use Rattle.acgrep.proofs.Streams.{ends_joined, searches_more, whole_searched}

-- what was kept before a read
kept_front : (kept filled : List ℕ) (l m : Option (List ℕ)) (count : ℕ) → FillsBehind kept filled l m count → is_text kept ≡ true → is_text (take (length filled - count) filled) ≡ true
kept_front kept filled l m count fills is = grind (arith, common_steps)

module _ (alone : Bool) (kept filled : List ℕ) (l m : Option (List ℕ)) (count : ℕ) (fills : FillsBehind kept filled l m count) (text : TextIf alone kept) where
  -- of what is there after it nothing is a zero byte where nothing came, or what came holds none
  pub end_text : count ≡ 0 → TextIf alone filled
  end_text none = subst (TextIf alone) (sym (fills.behind ∙ ap (λ (l : List ℕ). kept ++ l) (nil_from_length fills.came (fills.counted ∙ none)) ∙ append-nil kept)) text

  pub filled_by : {P : Type 0} → (alone ≡ true → is_text (take (length filled - count) filled) ≡ true → P) → alone ≡ true → P
  filled_by holds asked = holds asked (kept_front kept filled l m count fills (text asked))

module _ (p : Patterns) (job : Job) (alone : Bool) where
  -- the whole lines of bytes, and what follows
  whole_text : (a b : State) (x y : Option (List ℕ)) (bytes kept : List ℕ) → (whole : SearchesWhole p job a b x y bytes kept) → TextIf alone bytes → TextIf alone whole.searched × TextIf alone kept
  whole_text a b x y bytes kept whole text =
      let parts = λ (asked : alone ≡ true). text_parts whole.searched kept (subst (λ (l : List ℕ). is_text l ≡ true) whole.cut (text asked)) in
      (λ asked. (parts asked).0, λ asked. (parts asked).1)

  -- at the begin the whole lines that are there are searched
  pub front_start : (a b : State) (x y l : Option (List ℕ)) (first kept : List ℕ) → TextIf alone first → SearchesWhole p job a b x y first kept
      → SearchesFront p job alone a b x y l l first kept × TextIf alone kept
  front_start a b x y l first kept text whole =
      let (front, back) = whole_text a b x y first kept whole text in (
        record {
          some = record { came = []; searched = whole.searched; consumed = Consumes-nil l; cut = append-nil first ∙ whole.cut; text = front; searches = whole.searches };
          whole = whole.whole;
        },
        back,
      )

  -- nothing more is told
  pub front_stop : (a b : State) (x y l m : Option (List ℕ)) (first kept : List ℕ) → IsSettled job b → SearchesFront p job alone a b x y l m first kept → SearchesPast p job alone a b x y l m first
  front_stop a b x y l m first kept settled so_far = record { kept = kept; some = so_far.some; ends = inr (so_far.whole, settled) }

  -- a read more
  module _ (a b c : State) (x y z w l m n : Option (List ℕ)) (first kept filled : List ℕ) (count : ℕ) (goes : IsSettled job b → ⊥) (keeps : Keeps y z) (fills : FillsBehind kept filled m n count)
      (text : TextIf alone kept) (so_far : SearchesFront p job alone a b x y l m first kept) where
    -- of what is there then a front is searched
    abbrev searched_more : (front after : List ℕ) → filled ≡ front ++ after → TextIf alone front → SearchesText p job b c z w front → SearchesRead p job alone a c x w l n first after
    searched_more front after cut is searches =
        let some = so_far.some in
        record {
          came = some.came ++ fills.came;
          searched = some.searched ++ front;
          consumed = Consumes-trans l m n some.came fills.came some.consumed fills.read;
          cut = sym (append_assoc first some.came fills.came) ∙ ap (λ (t : List ℕ). t ++ fills.came) some.cut ∙ append_assoc some.searched kept fills.came
              ∙ ap (λ (t : List ℕ). some.searched ++ t) (sym fills.behind ∙ cut) ∙ sym (append_assoc some.searched front after);
          text = λ asked. text_joined some.searched front (some.text asked) (is asked);
          searches = searches_more p job a b c x y z w some.searched front keeps so_far.whole goes some.searches searches;
        }

    front_step : (after : List ℕ) → (whole : SearchesWhole p job b c z w filled after) → TextIf alone whole.searched → SearchesFront p job alone a c x w l n first after
    front_step after whole is = record {
      some = searched_more whole.searched after whole.cut is whole.searches;
      whole = ends_joined job.style.ending so_far.some.searched whole.searched so_far.whole whole.whole;
    }

    -- that gives nothing: what is kept is searched
    pub front_last : count ≡ 0 → SearchesText p job b c z w filled → SearchesPast p job alone a c x w l n first
    front_last none last =
        record { kept = []; some = searched_more filled [] (sym (append-nil filled)) (end_text alone kept filled m n count fills text none) last; ends = inl (refl, fills.ended none) }

    -- that gives bytes without a zero byte
    pub front_text : (after : List ℕ) → (alone ≡ true → is_text (take (length filled - count) filled) ≡ true → is_text filled ≡ true) → SearchesWhole p job b c z w filled after
        → SearchesFront p job alone a c x w l n first after × TextIf alone after
    front_text after is whole =
        let (front, back) = whole_text b c z w filled after whole (filled_by alone kept filled m n count fills text is) in
        (front_step after whole front, back)

    -- that gives a line with one
    pub front_binary : alone ≡ true → (after : List ℕ) (start : ℕ) → start ≤ length filled → (0 < start → IsEnding job.style.ending filled (start - 1))
        → (alone ≡ true → is_text (take (length filled - count) filled) ≡ true → IsZeroLine job.style.ending filled (Some start)) → after ≡ drop start filled → SearchesText p job b c z w (take start filled)
        → (alone ≡ true) × SearchesFront p job alone a c x w l n first after × BeginsBinary job.style.ending after
    unfolding whole_searched
    front_binary only after start within ends cut rest searches =
        let (front, binary) = filled_by alone kept filled m n count fills text cut only in (
          only,
          front_step after (whole_searched p job b c z w filled after start within ends rest searches) (λ asked. front),
          subst (BeginsBinary job.style.ending) (sym rest) binary,
        )
