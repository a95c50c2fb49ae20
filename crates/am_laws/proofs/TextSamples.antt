-- Two people insert after one letter: in every order of delivery the text reads a, y, x, b, and at each state before
-- what was there then.
use Rattle.std.proofs.Common.{◌≡◌, List, [], ◌∷◌, map, refl}
use Rattle.am_laws.specs.Records.{OpId, Hash}
use Rattle.am_types.specs.Operations.{all_operations}
use Rattle.am_types.specs.Members.{Member, changes, hashes}
use Rattle.am_types.specs.Ancestors.{ancestors}
use Rattle.am_types.specs.Deliver.{Sets, deliver, settle, after}
use Rattle.am_types.specs.Elements.{elements}
use Rattle.am_types.specs.Replay.{replay}
use Rattle.am_laws.proofs.SampleHashes.{h_t1, h_t2, h_t3}
use Rattle.am_laws.proofs.Samples.{the_text, t1, t2, t3, id, aa, bb, cc}

-- the elements of the text in a set
abbrev letters : List Member → List OpId
letters C = elements (all_operations (changes C)) the_text

-- all three are in, and the text reads a, y, x, b
record Whole (s : Sets) : Type 0 where
  text : letters s.closed ≡ id 2 aa ∷ id 4 cc ∷ id 4 bb ∷ id 3 aa ∷ []
  waiting : s.waiting ≡ []
  rejected : s.rejected ≡ []

-- ---- in one delivery

at_once-123 : Whole (deliver [] [] (t1 ∷ t2 ∷ t3 ∷ []))
unfolding deliver settle Rattle.am_types.specs.Verdicts.verdict ancestors elements
at_once-123 = record { text = refl; waiting = refl; rejected = refl }

at_once-132 : Whole (deliver [] [] (t1 ∷ t3 ∷ t2 ∷ []))
unfolding deliver settle Rattle.am_types.specs.Verdicts.verdict ancestors elements
at_once-132 = record { text = refl; waiting = refl; rejected = refl }

at_once-213 : Whole (deliver [] [] (t2 ∷ t1 ∷ t3 ∷ []))
unfolding deliver settle Rattle.am_types.specs.Verdicts.verdict ancestors elements
at_once-213 = record { text = refl; waiting = refl; rejected = refl }

at_once-231 : Whole (deliver [] [] (t2 ∷ t3 ∷ t1 ∷ []))
unfolding deliver settle Rattle.am_types.specs.Verdicts.verdict ancestors elements
at_once-231 = record { text = refl; waiting = refl; rejected = refl }

at_once-312 : Whole (deliver [] [] (t3 ∷ t1 ∷ t2 ∷ []))
unfolding deliver settle Rattle.am_types.specs.Verdicts.verdict ancestors elements
at_once-312 = record { text = refl; waiting = refl; rejected = refl }

at_once-321 : Whole (deliver [] [] (t3 ∷ t2 ∷ t1 ∷ []))
unfolding deliver settle Rattle.am_types.specs.Verdicts.verdict ancestors elements
at_once-321 = record { text = refl; waiting = refl; rejected = refl }

-- ---- in three deliveries

one_by_one-123 : Whole (after ((t1 ∷ []) ∷ (t2 ∷ []) ∷ (t3 ∷ []) ∷ []))
unfolding deliver settle Rattle.am_types.specs.Verdicts.verdict ancestors elements
one_by_one-123 = record { text = refl; waiting = refl; rejected = refl }

one_by_one-132 : Whole (after ((t1 ∷ []) ∷ (t3 ∷ []) ∷ (t2 ∷ []) ∷ []))
unfolding deliver settle Rattle.am_types.specs.Verdicts.verdict ancestors elements
one_by_one-132 = record { text = refl; waiting = refl; rejected = refl }

one_by_one-213 : Whole (after ((t2 ∷ []) ∷ (t1 ∷ []) ∷ (t3 ∷ []) ∷ []))
unfolding deliver settle Rattle.am_types.specs.Verdicts.verdict ancestors elements
one_by_one-213 = record { text = refl; waiting = refl; rejected = refl }

one_by_one-231 : Whole (after ((t2 ∷ []) ∷ (t3 ∷ []) ∷ (t1 ∷ []) ∷ []))
unfolding deliver settle Rattle.am_types.specs.Verdicts.verdict ancestors elements
one_by_one-231 = record { text = refl; waiting = refl; rejected = refl }

one_by_one-312 : Whole (after ((t3 ∷ []) ∷ (t1 ∷ []) ∷ (t2 ∷ []) ∷ []))
unfolding deliver settle Rattle.am_types.specs.Verdicts.verdict ancestors elements
one_by_one-312 = record { text = refl; waiting = refl; rejected = refl }

one_by_one-321 : Whole (after ((t3 ∷ []) ∷ (t2 ∷ []) ∷ (t1 ∷ []) ∷ []))
unfolding deliver settle Rattle.am_types.specs.Verdicts.verdict ancestors elements
one_by_one-321 = record { text = refl; waiting = refl; rejected = refl }

-- the one of lesser hash joins first
joins_by_hash : hashes (deliver [] [] (t2 ∷ t3 ∷ t1 ∷ [])).closed ≡ h_t1 ∷ h_t3 ∷ h_t2 ∷ []
unfolding deliver settle Rattle.am_types.specs.Verdicts.verdict ancestors
joins_by_hash = refl

-- ---- at the states before

abbrev letters_at : List Hash → List OpId
letters_at hs = letters (ancestors (t3 ∷ t2 ∷ t1 ∷ []) hs)

at_first : letters_at (h_t1 ∷ []) ≡ id 2 aa ∷ id 3 aa ∷ []
unfolding elements ancestors
at_first = refl

at_second : letters_at (h_t2 ∷ []) ≡ id 2 aa ∷ id 4 bb ∷ id 3 aa ∷ []
unfolding elements ancestors
at_second = refl

at_third : letters_at (h_t3 ∷ []) ≡ id 2 aa ∷ id 4 cc ∷ id 3 aa ∷ []
unfolding elements ancestors
at_third = refl

at_first_and_second : letters_at (h_t1 ∷ h_t2 ∷ []) ≡ id 2 aa ∷ id 4 bb ∷ id 3 aa ∷ []
unfolding elements ancestors
at_first_and_second = refl

-- ---- what is visible

-- the visible entries, by their ids
abbrev seen : List Member → List OpId
seen C = map (λ e. e.id) (replay (all_operations (changes C)))

abbrev seen_at : List Hash → List OpId
seen_at hs = seen (ancestors (t3 ∷ t2 ∷ t1 ∷ []) hs)

seen_in_whole : seen (t3 ∷ t2 ∷ t1 ∷ []) ≡ id 1 aa ∷ id 2 aa ∷ id 4 cc ∷ id 4 bb ∷ id 3 aa ∷ []
unfolding replay elements
seen_in_whole = refl

seen_at_first : seen_at (h_t1 ∷ []) ≡ id 1 aa ∷ id 2 aa ∷ id 3 aa ∷ []
unfolding replay elements ancestors
seen_at_first = refl

seen_at_second : seen_at (h_t2 ∷ []) ≡ id 1 aa ∷ id 2 aa ∷ id 4 bb ∷ id 3 aa ∷ []
unfolding replay elements ancestors
seen_at_second = refl

seen_at_third : seen_at (h_t3 ∷ []) ≡ id 1 aa ∷ id 2 aa ∷ id 4 cc ∷ id 3 aa ∷ []
unfolding replay elements ancestors
seen_at_third = refl

seen_at_both : seen_at (h_t2 ∷ h_t3 ∷ []) ≡ id 1 aa ∷ id 2 aa ∷ id 4 cc ∷ id 4 bb ∷ id 3 aa ∷ []
unfolding replay elements ancestors
seen_at_both = refl
