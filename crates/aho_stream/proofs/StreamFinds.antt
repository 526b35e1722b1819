-- What is left of the finds of a stream, from one chunk told to the next.
use Rattle.std.proofs.Common.{◌≡◌, ℕ, suc, ◌≤◌, Bool, true, false, List, [], ◌∷◌, ◌++◌, length, take, nat_lt, nat_eq, if◌then◌else◌, refl, sym, ◌∙◌, ap, subst, arith, append_assoc, append-nil}
use Rattle.std.specs.Prelude.{Option, Some, None, slice_range, MatchBool, ◌&&◌}
use Rattle.std.specs.Io.{StartsWith}
use Rattle.std.proofs.lemmas.Bool.{MatchBool-at_false, lt-ltb, le-ltb, ne_eqb}
use Rattle.std.proofs.lemmas.List.{drop_all, take_at}
use Rattle.std.proofs.lemmas.List.Folds.{drop_split}
use Rattle.aho_core.specs.Answer.{IsAnswer}
use Rattle.aho_core.specs.Iteration.{AreFinds, IsNextFind, repeats_end}
use Rattle.aho_core.specs.Laws.{shortest}
use Rattle.aho_core.specs.Occurrence.{Occurrence}
use Rattle.aho_core.specs.Patterns.{Patterns}
use Rattle.aho_core.specs.Replacement.{replaced_from}
use Rattle.aho_core.specs.Search.{plain_search}
use Rattle.aho_automaton.proofs.NextFinds.{finds-next, finds-none}
use Rattle.aho_automaton.proofs.Places.{no_part, part_join}
use Rattle.std.specs.Prelude.{map}
use Rattle.aho_stream.specs.After.{search_from}
use Rattle.aho_stream.specs.Replacing.{replaced_up_to}
use Rattle.aho_stream.proofs.PatternLengths.{occurs_some}

-- bytes begin with their front
pub begins : (front more whole : List ℕ) → whole ≡ front ++ more → StartsWith whole front
begins front more whole e = ap (take (length front)) e ∙ take_at front more (length front) refl

-- both ways of a test begin with the same
if_front : (b : Bool) (front x y x' y' : List ℕ) → x ≡ front ++ x' → y ≡ front ++ y' → (if b then x else y) ≡ front ++ (if b then x' else y')
if_front true front x y x' y' e f = e
if_front false front x y x' y' e f = f

module _ (p : Patterns) (lengths : List ℕ) (are : lengths ≡ map length p.words) (no_empty : 1 ≤ shortest lengths) (bytes : List ℕ) (from : ℕ) where
  -- an answer has a byte, so it is no empty one at the last match's end
  not_repeated : (last : Option ℕ) (answer : Option Occurrence) → IsAnswer p (search_from from bytes) answer → repeats_end last answer ≡ false
  not_repeated None answer is = refl
  not_repeated (Some end) None is = refl
  not_repeated (Some end) (Some m) is =
      let some = occurs_some p lengths are m is.0 no_empty in
      ap (λ (b : Bool). b && nat_eq m.end end) (ne_eqb m.start m.end (λ (e : m.start ≡ m.end). omega (arith, some, e)))

  -- so the next find is the answer
  pub find_of_answer : (last : Option ℕ) (found : Option Occurrence) → IsAnswer p (search_from from bytes) found → IsNextFind p (search_from from bytes) last found
  find_of_answer last found is = (
    found,
    is,
    subst (λ (b : Bool). MatchBool b (IsAnswer p (search_from (suc from) bytes) found) (found ≡ found)) (sym (not_repeated last found is)) refl,
  )

  pub answer_of_find : (last : Option ℕ) (found : Option Occurrence) → IsNextFind p (search_from from bytes) last found → IsAnswer p (search_from from bytes) found
  answer_of_find last found next =
      let same : found ≡ next.0 = MatchBool-at_false _ (found ≡ next.0) (not_repeated last next.0 next.1) next.2 in
      subst (IsAnswer p (search_from from bytes)) (sym same) next.1

module _ (p : Patterns) (piece : Occurrence → List ℕ) (bytes : List ℕ) (ms : List Occurrence) where
  -- the finds of the bytes from a place on, where so much was reported and this was written: it goes on to the whole
  pub record Left (from reported : ℕ) (written : List ℕ) : Type 0 where
    pub last : Option ℕ
    pub rest : List Occurrence
    pub finds : AreFinds p (search_from from bytes) last rest
    pub whole : replaced_from bytes 0 ms piece ≡ written ++ replaced_from bytes reported rest piece
    pub up_to : (place : ℕ) → reported ≤ place → replaced_up_to bytes place 0 ms piece ≡ written ++ replaced_up_to bytes place reported rest piece

  pub left_first : AreFinds p (plain_search bytes) None ms → Left 0 0 []
  left_first finds = record { last = None; rest = ms; finds = finds; whole = refl; up_to = λ place after. refl }

  module _ (lengths : List ℕ) (are : lengths ≡ map length p.words) (no_empty : 1 ≤ shortest lengths) (from reported : ℕ) where
    -- every match that may come starts at a place or later
    abbrev pub IsClearTo : ℕ → Type 0
    IsClearTo place = (m : Occurrence) → IsAnswer p (search_from from bytes) (Some m) → place ≤ m.start

    starts_behind : (place : ℕ) (last : Option ℕ) (m : Occurrence) (rest : List Occurrence) → IsClearTo place → AreFinds p (search_from from bytes) last (m ∷ rest) → place ≤ m.start
    starts_behind place last m rest clear finds = clear m (answer_of_find p lengths are no_empty bytes from last (Some m) finds.0)

    module _ (reported' : ℕ) (ordered : reported ≤ reported') (clear : IsClearTo reported') where
      abbrev gap : List ℕ
      gap = slice_range bytes reported reported'

      whole_plain : (last : Option ℕ) (rest : List Occurrence) → AreFinds p (search_from from bytes) last rest
          → replaced_from bytes reported rest piece ≡ gap ++ replaced_from bytes reported' rest piece
      whole_plain last [] finds = drop_split bytes reported reported' ordered
      whole_plain last (m ∷ rest) finds =
          let behind = starts_behind reported' last m rest clear finds in
          ap (λ (xs : List ℕ). xs ++ (piece m ++ replaced_from bytes m.end rest piece)) (part_join bytes reported reported' m.start ordered behind)
          ∙ append_assoc gap (slice_range bytes reported' m.start) (piece m ++ replaced_from bytes m.end rest piece)

      up_to_plain : (last : Option ℕ) (rest : List Occurrence) (place : ℕ) → reported' ≤ place → AreFinds p (search_from from bytes) last rest
          → replaced_up_to bytes place reported rest piece ≡ gap ++ replaced_up_to bytes place reported' rest piece
      up_to_plain last [] place after finds = part_join bytes reported reported' place ordered after
      up_to_plain last (m ∷ rest) place after finds =
          let behind = starts_behind reported' last m rest clear finds in
          if_front (nat_lt m.start place) gap
          (slice_range bytes reported m.start ++ (piece m ++ replaced_up_to bytes place m.end rest piece)) (slice_range bytes reported place)
          (slice_range bytes reported' m.start ++ (piece m ++ replaced_up_to bytes place m.end rest piece)) (slice_range bytes reported' place)
          (ap (λ (xs : List ℕ). xs ++ (piece m ++ replaced_up_to bytes place m.end rest piece)) (part_join bytes reported reported' m.start ordered behind)
          ∙ append_assoc gap (slice_range bytes reported' m.start) (piece m ++ replaced_up_to bytes place m.end rest piece))
          (part_join bytes reported reported' place ordered after)

      -- bytes outside of every match are told
      pub left_plain : (written : List ℕ) → Left from reported written → Left from reported' (written ++ gap)
      left_plain written left = record {
        last = left.last;
        rest = left.rest;
        finds = left.finds;
        whole = left.whole ∙ ap (λ (xs : List ℕ). written ++ xs) (whole_plain left.last left.rest left.finds)
            ∙ sym (append_assoc written gap (replaced_from bytes reported' left.rest piece));
        up_to = λ place after. left.up_to place (omega arith)
            ∙ ap (λ (xs : List ℕ). written ++ xs) (up_to_plain left.last left.rest place after left.finds)
            ∙ sym (append_assoc written gap (replaced_up_to bytes place reported' left.rest piece));
      }

    module _ (m : Occurrence) (answer : IsAnswer p (search_from from bytes) (Some m)) (starts : m.start ≡ reported) where
      no_gap : slice_range bytes reported m.start ≡ []
      no_gap = ap (λ (k : ℕ). slice_range bytes reported k) starts ∙ no_part bytes reported

      whole_match : (rest : List Occurrence) → replaced_from bytes reported (m ∷ rest) piece ≡ piece m ++ replaced_from bytes m.end rest piece
      whole_match rest = ap (λ (xs : List ℕ). xs ++ (piece m ++ replaced_from bytes m.end rest piece)) no_gap

      up_to_match : (rest : List Occurrence) (place : ℕ) → m.end ≤ place → replaced_up_to bytes place reported (m ∷ rest) piece ≡ piece m ++ replaced_up_to bytes place m.end rest piece
      up_to_match rest place after =
          let some = occurs_some p lengths are m answer.0 no_empty in
          ap (λ (b : Bool). if b then slice_range bytes reported m.start ++ (piece m ++ replaced_up_to bytes place m.end rest piece) else slice_range bytes reported place)
          (lt-ltb m.start place (omega (arith, some)))
          ∙ ap (λ (xs : List ℕ). xs ++ (piece m ++ replaced_up_to bytes place m.end rest piece)) no_gap

      -- a match is told
      pub left_match : (written : List ℕ) → Left from reported written → Left m.end m.end (written ++ piece m)
      left_match written left =
          let next = find_of_answer p lengths are no_empty bytes from left.last (Some m) answer in
          let (rest, same, finds) = finds-next p (search_from from bytes) left.last m left.rest (omega arith) left.finds next in
          let some = occurs_some p lengths are m answer.0 no_empty in
          record {
            last = Some m.end;
            rest = rest;
            finds = finds;
            whole = left.whole ∙ ap (λ (ns : List Occurrence). written ++ replaced_from bytes reported ns piece) same
                ∙ ap (λ (xs : List ℕ). written ++ xs) (whole_match rest) ∙ sym (append_assoc written (piece m) (replaced_from bytes m.end rest piece));
            up_to = λ place after. left.up_to place (omega (arith, some, starts))
                ∙ ap (λ (ns : List Occurrence). written ++ replaced_up_to bytes place reported ns piece) same
                ∙ ap (λ (xs : List ℕ). written ++ xs) (up_to_match rest place after) ∙ sym (append_assoc written (piece m) (replaced_up_to bytes place m.end rest piece));
          }

    -- where no more is found, and all was reported, it is the whole
    pub left_none : (written : List ℕ) → Left from reported written → IsAnswer p (search_from from bytes) None → length bytes ≡ reported → replaced_from bytes 0 ms piece ≡ written
    left_none written left none all =
        let over : left.rest ≡ [] = finds-none p (search_from from bytes) left.last left.rest left.finds (find_of_answer p lengths are no_empty bytes from left.last None none) in
        left.whole ∙ ap (λ (ns : List Occurrence). written ++ replaced_from bytes reported ns piece) over
        ∙ ap (λ (xs : List ℕ). written ++ xs) (drop_all reported bytes (omega (arith, all))) ∙ append-nil written

    nothing_up_to : (last : Option ℕ) (rest : List Occurrence) → IsClearTo reported → AreFinds p (search_from from bytes) last rest → replaced_up_to bytes reported reported rest piece ≡ []
    nothing_up_to last [] clear finds = no_part bytes reported
    nothing_up_to last (m ∷ rest) clear finds =
        ap (λ (b : Bool). if b then slice_range bytes reported m.start ++ (piece m ++ replaced_up_to bytes reported m.end rest piece) else slice_range bytes reported reported)
        (le-ltb m.start reported (starts_behind reported last m rest clear finds))
        ∙ no_part bytes reported

    -- it is the whole up to what was reported
    pub left_up_to : (written : List ℕ) → Left from reported written → IsClearTo reported → replaced_up_to bytes reported 0 ms piece ≡ written
    left_up_to written left clear =
        left.up_to reported (omega arith) ∙ ap (λ (xs : List ℕ). written ++ xs) (nothing_up_to left.last left.rest clear left.finds) ∙ append-nil written

    -- and a beginning of the whole
    pub left_begins : (front more : List ℕ) → Left from reported (front ++ more) → StartsWith (replaced_from bytes 0 ms piece) front
    left_begins front more left =
        begins front (more ++ replaced_from bytes reported left.rest piece) (replaced_from bytes 0 ms piece)
        (left.whole ∙ append_assoc front more (replaced_from bytes reported left.rest piece))
