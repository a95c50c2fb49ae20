-- Bytes are a file of one list of changes at most, or have one first bad chunk.
use Rattle.std.proofs.Common.{ℕ, suc, arith, ◌≡◌, ◌<◌, ◌+◌, List, [], ◌∷◌, ◌++◌, length, flat_map, Bool, Ok, Err, All, refl, sym, ap, ◌∙◌, subst, inl, inr}
use Rattle.std.specs.List.{AllZip}
use Rattle.std.proofs.lemmas.List.{append_assoc}
use Rattle.std.proofs.lemmas.List.Elements.{All-head, All-tail}
use Rattle.am_types.specs.declared.Change.{Change}
use Rattle.am_frame.specs.Frames.{Chunk, IsChunk, chunk_bytes}
use Rattle.am_frame.specs.Frames as frames
use Rattle.am_frame.specs.declared.FrameFault.{FrameFault}
use Rattle.am_frame.specs.Faults as frame
use Rattle.am_frame.proofs.OneChunk.{one_chunk}
use Rattle.am_histories.specs.Laws.{HasOneHistory}
use Rattle.am_store.specs.declared.fault.LoadFault.{LoadFault}
use Rattle.am_store.specs.Files.{Holds, HasFault, FirstBad}
use Rattle.am_store.specs.Laws.{OneReading}
use Rattle.am_store.proofs.Verdicts.{Outcome, Finds, of_frame, JudgesOnce, JudgesDocumentsOnce, one_found, held, where_wrong}

no_more : (k : Chunk) (rest : List ℕ) → [] ≡ chunk_bytes k ++ rest → ⊥
no_more k rest e = cc

both_ways : (cs : List Change) (f : LoadFault) → ◌≡◌ {A = Outcome} (Ok cs) (Err f) → ⊥
both_ways cs f e = cc

same_list : (cs ds : List Change) → ◌≡◌ {A = Outcome} (Ok cs) (Ok ds) → cs ≡ ds
same_list cs ds e = cc

same_wrong : (f g : LoadFault) → ◌≡◌ {A = Outcome} (Err f) (Err g) → f ≡ g
same_wrong f g e = cc

abbrev OneFrameFault : Type 0
OneFrameFault = (bytes : List ℕ) (fault other : FrameFault) → frame.HasFault bytes fault → frame.HasFault bytes other → fault ≡ other

abbrev NoneAtAChunk : Type 0
NoneAtAChunk = (bytes : List ℕ) (chunk : Chunk) (rest : List ℕ) (fault : FrameFault) → IsChunk chunk → bytes ≡ chunk_bytes chunk ++ rest → frame.HasFault bytes fault → ⊥

abbrev OneFile : Type 0
OneFile = (bytes : List ℕ) (chunks others : List Chunk) → frames.IsFile bytes chunks → frames.IsFile bytes others → chunks ≡ others

module _ (one_frame_fault : OneFrameFault) (none_at_a_chunk : NoneAtAChunk) (one_file : OneFile) (judges : JudgesOnce) (judges_documents : JudgesDocumentsOnce) (one_history : HasOneHistory) where
  -- what is wrong with the chunk that stands first is found of it
  found_there : (only : Bool) (bytes : List ℕ) (k : Chunk) (rest : List ℕ) (f : LoadFault) → IsChunk k → bytes ≡ chunk_bytes k ++ rest → HasFault only bytes f → Finds only k (Err f)
  found_there only bytes k rest f is e x = elim (where_wrong one_history only bytes f x) [
    | inl a ↦ absurd (none_at_a_chunk bytes k rest a.fault is e a.has)
    | inr b ↦ subst (λ (q : Chunk). Finds only q (Err f)) (one_chunk b.chunk k b.rest rest b.is_chunk is (sym b.bytes_are ∙ e)).0 b.finds
  ]

  -- nothing is wrong with a chunk that gives changes
  clean : (only : Bool) (bytes : List ℕ) (k : Chunk) (cs : List Change) (rest : List ℕ) (f : LoadFault) → IsChunk k → Holds only k cs → bytes ≡ chunk_bytes k ++ rest → HasFault only bytes f → ⊥
  clean only bytes k cs rest f is h e x = both_ways cs f (one_found judges judges_documents only k (Ok cs) (Err f) is (held one_history only k cs h) (found_there only bytes k rest f is e x))

  -- ---- lists of chunks

  rest_of : (k : Chunk) (ks : List Chunk) (r : List ℕ) → flat_map chunk_bytes (k ∷ ks) ++ r ≡ chunk_bytes k ++ (flat_map chunk_bytes ks ++ r)
  rest_of k ks r = append_assoc (chunk_bytes k) (flat_map chunk_bytes ks) r

  agree : (only : Bool) (xs ys : List Chunk) (cs ds : List (List Change)) (r q : List ℕ) (f g : LoadFault) → All IsChunk xs → All IsChunk ys → AllZip (Holds only) xs cs → AllZip (Holds only) ys ds
      → flat_map chunk_bytes xs ++ r ≡ flat_map chunk_bytes ys ++ q → HasFault only r f → HasFault only q g → (length xs ≡ length ys) × (r ≡ q)
  agree only [] [] cs ds r q f g a b z w e x y = (refl, e)
  agree only [] (k ∷ ys) cs [] r q f g a b z w e x y = absurd w
  agree only [] (k ∷ ys) cs (d ∷ ds) r q f g a b z w e x y = absurd (clean only r k d (flat_map chunk_bytes ys ++ q) f (All-head IsChunk k ys b) w.0 (e ∙ rest_of k ys q) x)
  agree only (k ∷ xs) [] [] ds r q f g a b z w e x y = absurd z
  agree only (k ∷ xs) [] (c ∷ cs) ds r q f g a b z w e x y = absurd (clean only q k c (flat_map chunk_bytes xs ++ r) g (All-head IsChunk k xs a) z.0 (sym e ∙ rest_of k xs r) y)
  agree only (k ∷ xs) (l ∷ ys) [] ds r q f g a b z w e x y = absurd z
  agree only (k ∷ xs) (l ∷ ys) (c ∷ cs) [] r q f g a b z w e x y = absurd w
  agree only (k ∷ xs) (l ∷ ys) (c ∷ cs) (d ∷ ds) r q f g a b z w e x y =
      let step = one_chunk k l (flat_map chunk_bytes xs ++ r) (flat_map chunk_bytes ys ++ q) (All-head IsChunk k xs a) (All-head IsChunk l ys b) (sym (rest_of k xs r) ∙ e ∙ rest_of l ys q) in
      let again = agree only xs ys cs ds r q f g (All-tail IsChunk k xs a) (All-tail IsChunk l ys b) z.1 w.1 step.1 x y in
      (ap suc again.0, again.1)

  never : (only : Bool) (xs ys : List Chunk) (cs ds : List (List Change)) (r : List ℕ) (f : LoadFault) → All IsChunk xs → All IsChunk ys → AllZip (Holds only) xs cs → AllZip (Holds only) ys ds
      → flat_map chunk_bytes xs ≡ flat_map chunk_bytes ys ++ r → 0 < length r → HasFault only r f → ⊥
  never only [] [] cs ds r f a b z w e more x = let none = ap length e in absurd (omega arith)
  never only [] (l ∷ ys) cs ds r f a b z w e more x = no_more l (flat_map chunk_bytes ys ++ r) (e ∙ rest_of l ys r)
  never only (k ∷ xs) [] [] ds r f a b z w e more x = absurd z
  never only (k ∷ xs) [] (c ∷ cs) ds r f a b z w e more x = clean only r k c (flat_map chunk_bytes xs) f (All-head IsChunk k xs a) z.0 (sym e) x
  never only (k ∷ xs) (l ∷ ys) [] ds r f a b z w e more x = absurd z
  never only (k ∷ xs) (l ∷ ys) (c ∷ cs) [] r f a b z w e more x = absurd w
  never only (k ∷ xs) (l ∷ ys) (c ∷ cs) (d ∷ ds) r f a b z w e more x =
      let step = one_chunk k l (flat_map chunk_bytes xs) (flat_map chunk_bytes ys ++ r) (All-head IsChunk k xs a) (All-head IsChunk l ys b) (e ∙ rest_of l ys r) in
      never only xs ys cs ds r f (All-tail IsChunk k xs a) (All-tail IsChunk l ys b) z.1 w.1 step.1 more x

  same_lists : (only : Bool) (ks : List Chunk) (cs ds : List (List Change)) → All IsChunk ks → AllZip (Holds only) ks cs → AllZip (Holds only) ks ds → cs ≡ ds
  same_lists only [] [] [] a z w = refl
  same_lists only [] [] (d ∷ ds) a z w = absurd w
  same_lists only [] (c ∷ cs) ds a z w = absurd z
  same_lists only (k ∷ ks) [] ds a z w = absurd z
  same_lists only (k ∷ ks) (c ∷ cs) [] a z w = absurd w
  same_lists only (k ∷ ks) (c ∷ cs) (d ∷ ds) a z w =
      let first = same_list c d (one_found judges judges_documents only k (Ok c) (Ok d) (All-head IsChunk k ks a) (held one_history only k c z.0) (held one_history only k d w.0)) in
      let others = same_lists only ks cs ds (All-tail IsChunk k ks a) z.1 w.1 in
      λ i. first i ∷ others i

  -- ---- one fault

  same_fault : (only : Bool) (bytes : List ℕ) (f g : LoadFault) → HasFault only bytes f → HasFault only bytes g → f ≡ g
  same_fault only bytes f g x y = elim (where_wrong one_history only bytes f x) [
    | inl a ↦ elim (where_wrong one_history only bytes g y) [
      | inl b ↦ a.is ∙ ap of_frame (one_frame_fault bytes a.fault b.fault a.has b.has) ∙ sym b.is
      | inr b ↦ absurd (none_at_a_chunk bytes b.chunk b.rest a.fault b.is_chunk b.bytes_are a.has)
    ]
    | inr a ↦ same_wrong f g (one_found judges judges_documents only a.chunk (Err f) (Err g) a.is_chunk a.finds (found_there only bytes a.chunk a.rest g a.is_chunk a.bytes_are y))
  ]

  same_bad : (only : Bool) (bytes : List ℕ) (j k : ℕ) (f g : LoadFault) → FirstBad only bytes j f → FirstBad only bytes k g → (j ≡ k) × (f ≡ g)
  same_bad only bytes j k f g x y =
      let a = agree only x.before y.before x.lists y.lists x.rest y.rest f g x.each y.each x.hold y.hold (sym x.bytes_are ∙ y.bytes_are) x.bad y.bad in (
        x.number ∙ ap (λ n. n + 1) a.0 ∙ sym y.number,
        same_fault only y.rest f g (subst (λ b. HasFault only b f) a.1 x.bad) y.bad,
      )

  pub one_reading : OneReading
  one_reading = record {
    changes = λ only bytes cs ds x y.
        let same = one_file bytes x.chunks y.chunks x.file y.file in
        x.are ∙ ap (flat_map (λ l. l)) (same_lists only y.chunks x.lists y.lists y.file.each (subst (λ ks. AllZip (Holds only) ks x.lists) same x.hold) y.hold) ∙ sym y.are;
    first_bad = same_bad;
    never_both = λ only bytes cs k f x y. never only x.chunks y.before x.lists y.lists y.rest f x.file.each y.each x.hold y.hold (sym x.file.bytes_are ∙ y.bytes_are) y.more y.bad;
  }
