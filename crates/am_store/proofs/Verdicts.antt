-- What is found of a chunk is one thing at most.
use Rattle.std.proofs.Common.{ℕ, arith, ◌≡◌, ◌≢◌, ◌<◌, ◌^◌, List, [], ◌∷◌, ◌++◌, length, Bool, true, false, Result, Ok, Err, refl, sym, ap, ◌∙◌, subst, inl, inr, ◌⊎◌}
use Rattle.std.specs.Ordering.{ordering_reverse}
use Rattle.std.specs.declared.cmp.Ordering.{Ordering}
use Rattle.std.specs.declared.cmp.Ordering.TheVariants.{Less, Equal, Greater}
use Rattle.std.proofs.lemmas.List.Elements.{All-map}
use Rattle.am_types.specs.declared.Change.{Change}
use Rattle.am_types.specs.declared.Hash.{Hash}
use Rattle.am_types.specs.declared.Table.{Table}
use Rattle.am_types.specs.Documents.{History}
use Rattle.am_types.specs.Members.{Member, changes, heads}
use Rattle.am_types.specs.Order.{hash_cmp}
use Rattle.am_types.proofs.Orders.{hash_total, hash_exact}
use Rattle.am_frame.specs.Frames.{Chunk, IsChunk, chunk_of, chunk_bytes}
use Rattle.am_frame.specs.Faults as frame
use Rattle.am_frame.specs.declared.FrameFault.{FrameFault}
use Rattle.am_frame.specs.declared.FrameFault.TheVariants as frame_fault
use Rattle.am_change.specs.Contents.{hash}
use Rattle.am_change.specs.declared.ChangeFault.{ChangeFault}
use Rattle.am_change.specs.declared.ChangeFault.TheVariants as change_fault
use Rattle.am_change.specs.Fronts.{IsCompressed}
use Rattle.am_change.specs.Hashes.{with_hash, with_hashes}
use Rattle.am_change.specs.Judgement.{Judges}
use Rattle.am_doc.specs.declared.fault.DocFault.{DocFault}
use Rattle.am_doc.specs.declared.fault.DocFault.TheVariants as doc_fault
use Rattle.am_doc.specs.Fronts as document
use Rattle.am_doc.specs.Spelling as spelling
use Rattle.am_histories.specs.Laws.{HasOneHistory, StandBeside}
use Rattle.am_rebuild.specs.Documents.{IsHistoryOf, Rebuilds}
use Rattle.am_rebuild.specs.Judged.{IsApart, IsLeastApart}
use Rattle.am_rebuild.specs.declared.fault.RebuildFault.{RebuildFault}
use Rattle.am_rebuild.specs.declared.fault.RebuildFault.TheVariants as rebuild_fault
use Rattle.am_store.specs.declared.fault.LoadFault.{LoadFault}
use Rattle.am_store.specs.declared.fault.LoadFault.TheVariants.{BadMagic, Truncated, BadLength, BadChecksum, ChunkType, CompressedChunk, DocumentHere, CompressedColumn, BadChange, BadDocument, NoHistory, HeadsMismatch}
use Rattle.am_store.specs.Files.{HoldsChange, HoldsDocument, Holds, Begins, BeginsDocument, IsDocumentHere, AreOfNoChange, AreOfNoTable, TellNoHistory, TellOtherHeads, HasFault}

abbrev pub Outcome : Type 0
Outcome = Result (List Change) LoadFault

-- ---- changes

abbrev pub of_change : Result Change ChangeFault → Outcome
of_change (Ok c) = Ok (c ∷ [])
of_change (Err change_fault.CompressedColumn) = Err CompressedColumn
of_change (Err change_fault.BadChange) = Err BadChange
of_change (Err change_fault.NoMemory) = Ok []

pub record AsChange (k : Chunk) (x : Outcome) : Type 0 where
  pub kind : k.kind ≡ 1
  pub result : Result Change ChangeFault
  pub judged : Judges k.contents result
  pub known : result ≢ Err change_fault.NoMemory
  pub is : x ≡ of_change result

-- ---- frames

abbrev pub of_frame : FrameFault → LoadFault
of_frame frame_fault.BadMagic = BadMagic
of_frame frame_fault.Truncated = Truncated
of_frame frame_fault.BadLength = BadLength
of_frame frame_fault.BadChecksum = BadChecksum
of_frame (frame_fault.ChunkType type) = ChunkType type
of_frame frame_fault.CompressedChunk = CompressedChunk

pub record InFrame (bytes : List ℕ) (f : LoadFault) : Type 0 where
  pub fault : FrameFault
  pub is : f ≡ of_frame fault
  pub has : frame.HasFault bytes fault

-- ---- documents

abbrev pub of_rebuilt : Result (List Change) RebuildFault → Outcome
of_rebuilt (Ok cs) = Ok cs
of_rebuilt (Err rebuild_fault.NoHistory) = Err NoHistory
of_rebuilt (Err (rebuild_fault.HeadsMismatch h)) = Err (HeadsMismatch h)
of_rebuilt (Err rebuild_fault.NoMemory) = Ok []

pub record ByTable (t : Table) (x : Outcome) : Type 0 where
  pub found : Result (List Change) RebuildFault
  pub rebuilds : Rebuilds t found
  pub known : found ≢ Err rebuild_fault.NoMemory
  pub is : x ≡ of_rebuilt found

abbrev pub By : Result Table DocFault → Outcome → Type 0
By (Ok t) x = ByTable t x
By (Err doc_fault.CompressedColumn) x = x ≡ Err CompressedColumn
By (Err doc_fault.BadDocument) x = x ≡ Err BadDocument

pub record AsDocument (only : Bool) (k : Chunk) (x : Outcome) : Type 0 where
  pub allowed : only ≡ false
  pub kind : k.kind ≡ 0
  pub result : Result Table DocFault
  pub judged : spelling.Judges k.contents result
  pub by : By result x

pub record IsBarred (only : Bool) (k : Chunk) (x : Outcome) : Type 0 where
  pub barred : only ≡ true
  pub kind : k.kind ≡ 0
  pub is : x ≡ Err DocumentHere

abbrev pub Finds : Bool → Chunk → Outcome → Type 0
Finds only k x = AsChange k x ⊎ (AsDocument only k x ⊎ IsBarred only k x)

-- a chunk stands first, and this is wrong with it
pub record InChunk (only : Bool) (bytes : List ℕ) (f : LoadFault) : Type 0 where
  pub chunk : Chunk
  pub rest : List ℕ
  pub is_chunk : IsChunk chunk
  pub bytes_are : bytes ≡ chunk_bytes chunk ++ rest
  pub finds : Finds only chunk (Err f)

-- ---- it is one thing

two_kinds : (a b : ℕ) → a ≡ 0 → b ≡ 1 → a ≡ b → ⊥
two_kinds a b x y e = absurd (omega arith)

both_modes : (only : Bool) → only ≡ false → only ≡ true → ⊥
both_modes only a b = cc

abbrev pub JudgesOnce : Type 0
JudgesOnce = (bytes : List ℕ) (x y : Result Change ChangeFault) → length bytes < 2 ^ 64 → Judges bytes x → Judges bytes y → (x ≡ Err change_fault.NoMemory) ⊎ ((y ≡ Err change_fault.NoMemory) ⊎ (x ≡ y))

abbrev pub JudgesDocumentsOnce : Type 0
JudgesDocumentsOnce = (bytes : List ℕ) (x y : Result Table DocFault) → spelling.Judges bytes x → spelling.Judges bytes y → x ≡ y

not_apart : (xs : List Hash) (h : Hash) → IsApart xs xs h → ⊥
not_apart xs h (inl a) = a.1 a.0
not_apart xs h (inr a) = a.1 a.0

not_least_apart : (xs ys : List Hash) (h : Hash) → xs ≡ ys → IsLeastApart xs ys h → ⊥
not_least_apart xs ys h e a = not_apart xs h (subst (λ zs. IsApart xs zs h) (sym e) a.apart)

one_least : (xs ys : List Hash) (g h : Hash) → IsLeastApart xs ys g → IsLeastApart xs ys h → g ≡ h
one_least xs ys g h a b = go (hash_cmp g h) refl
  where
    go : (r : Ordering) → hash_cmp g h ≡ r → g ≡ h
    go Less e = absurd (b.least g a.apart e)
    go Equal e = hash_exact g h e
    go Greater e = absurd (a.least h b.apart (hash_total.antisymm h g ∙ ap ordering_reverse e))

one_rebuilt : (t : Table) (p q : Result (List Change) RebuildFault) → p ≢ Err rebuild_fault.NoMemory → q ≢ Err rebuild_fault.NoMemory → Rebuilds t p → Rebuilds t q → p ≡ q
one_rebuilt t (Ok cs) (Ok ds) a b x y = ap (λ (l : List Change). Ok l) (y.0.one cs x.0.history)
one_rebuilt t (Ok cs) (Err rebuild_fault.NoHistory) a b x y = absurd (y cs x.0.history)
one_rebuilt t (Ok cs) (Err (rebuild_fault.HeadsMismatch h)) a b x y =
    let same = y.1.one cs x.0.history in
    absurd (not_least_apart (heads (with_hashes y.0)) t.heads h (ap (λ l. heads (with_hashes l)) (sym same) ∙ x.1) y.2)
one_rebuilt t (Ok cs) (Err rebuild_fault.NoMemory) a b x y = absurd (b refl)
one_rebuilt t (Err rebuild_fault.NoHistory) (Ok ds) a b x y = absurd (x ds y.0.history)
one_rebuilt t (Err rebuild_fault.NoHistory) (Err rebuild_fault.NoHistory) a b x y = refl
one_rebuilt t (Err rebuild_fault.NoHistory) (Err (rebuild_fault.HeadsMismatch h)) a b x y = absurd (x y.0 y.1.history)
one_rebuilt t (Err rebuild_fault.NoHistory) (Err rebuild_fault.NoMemory) a b x y = absurd (b refl)
one_rebuilt t (Err (rebuild_fault.HeadsMismatch g)) (Ok ds) a b x y =
    let same = x.1.one ds y.0.history in
    absurd (not_least_apart (heads (with_hashes x.0)) t.heads g (ap (λ l. heads (with_hashes l)) (sym same) ∙ y.1) x.2)
one_rebuilt t (Err (rebuild_fault.HeadsMismatch g)) (Err rebuild_fault.NoHistory) a b x y = absurd (y x.0 x.1.history)
one_rebuilt t (Err (rebuild_fault.HeadsMismatch g)) (Err (rebuild_fault.HeadsMismatch h)) a b x y =
    let same : x.0 ≡ y.0 = y.1.one x.0 x.1.history in
    ap (λ (h : Hash). Err (rebuild_fault.HeadsMismatch h)) (one_least (heads (with_hashes y.0)) t.heads g h (subst (λ (l : List Change). IsLeastApart (heads (with_hashes l)) t.heads g) same x.2) y.2)
one_rebuilt t (Err (rebuild_fault.HeadsMismatch g)) (Err rebuild_fault.NoMemory) a b x y = absurd (b refl)
one_rebuilt t (Err rebuild_fault.NoMemory) q a b x y = absurd (a refl)

one_by : (r : Result Table DocFault) (x y : Outcome) → By r x → By r y → x ≡ y
one_by (Ok t) x y a b = a.is ∙ ap of_rebuilt (one_rebuilt t a.found b.found a.known b.known a.rebuilds b.rebuilds) ∙ sym b.is
one_by (Err doc_fault.CompressedColumn) x y a b = a ∙ sym b
one_by (Err doc_fault.BadDocument) x y a b = a ∙ sym b

module _ (judges : JudgesOnce) (judges_documents : JudgesDocumentsOnce) where
  one_change : (k : Chunk) (x y : Outcome) → length k.contents < 2 ^ 64 → AsChange k x → AsChange k y → x ≡ y
  one_change k x y short a b = elim (judges k.contents a.result b.result short a.judged b.judged) [
    | inl e ↦ absurd (a.known e)
    | inr r ↦ elim r [ inl e ↦ absurd (b.known e) | inr e ↦ a.is ∙ ap of_change e ∙ sym b.is ]
  ]

  one_document : (only : Bool) (k : Chunk) (x y : Outcome) → AsDocument only k x → AsDocument only k y → x ≡ y
  one_document only k x y a b = one_by b.result x y (subst (λ (r : Result Table DocFault). By r x) (judges_documents k.contents a.result b.result a.judged b.judged) a.by) b.by

  pub one_found : (only : Bool) (k : Chunk) (x y : Outcome) → IsChunk k → Finds only k x → Finds only k y → x ≡ y
  one_found only k x y is (inl a) (inl b) = one_change k x y is.1 a b
  one_found only k x y is (inl a) (inr (inl b)) = absurd (two_kinds k.kind k.kind b.kind a.kind refl)
  one_found only k x y is (inl a) (inr (inr b)) = absurd (two_kinds k.kind k.kind b.kind a.kind refl)
  one_found only k x y is (inr (inl a)) (inl b) = absurd (two_kinds k.kind k.kind a.kind b.kind refl)
  one_found only k x y is (inr (inl a)) (inr (inl b)) = one_document only k x y a b
  one_found only k x y is (inr (inl a)) (inr (inr b)) = absurd (both_modes only a.allowed b.barred)
  one_found only k x y is (inr (inr a)) (inl b) = absurd (two_kinds k.kind k.kind a.kind b.kind refl)
  one_found only k x y is (inr (inr a)) (inr (inl b)) = absurd (both_modes only b.allowed a.barred)
  one_found only k x y is (inr (inr a)) (inr (inr b)) = a.is ∙ sym b.is

-- ---- what a chunk gives is found, and so is what is wrong with it

module _ (one_history : HasOneHistory) where
  beside : (cs : List Change) → StandBeside hash (with_hashes cs)
  beside cs = All-map (λ (m : Member). m.hash.0 ≡ hash m.change) with_hash cs (λ k d l. refl)

  without_hashes : (cs : List Change) → changes (with_hashes cs) ≡ cs
  without_hashes [] = refl
  without_hashes (c ∷ cs) = ap (λ l. c ∷ l) (without_hashes cs)

  the_history : (t : Table) (cs : List Change) → History t (with_hashes cs) → IsHistoryOf t cs
  the_history t cs h = record {
    history = h;
    one = λ ds g. sym (without_hashes ds) ∙ ap changes (one_history hash t (with_hashes ds) (with_hashes cs) (beside ds) (beside cs) g h) ∙ without_hashes cs;
  }

  change_held : (k : Chunk) (cs : List Change) → (c : Change) × HoldsChange k c × (cs ≡ c ∷ []) → AsChange k (Ok cs)
  change_held k cs h = record { kind = h.1.kind; result = Ok h.0; judged = (h.1.fine, h.1.contents_are); known = λ e. absurd (cc); is = ap (λ (l : List Change). Ok l) h.2 }

  document_held : (k : Chunk) (cs : List Change) → HoldsDocument k cs → AsDocument false k (Ok cs)
  document_held k cs h = record {
    allowed = refl;
    kind = h.kind;
    result = Ok h.table;
    judged = h.spelled;
    by = record { found = Ok cs; rebuilds = (the_history h.table cs h.history, h.heads_are); known = λ e. absurd (cc); is = refl };
  }

  pub held : (only : Bool) (k : Chunk) (cs : List Change) → Holds only k cs → Finds only k (Ok cs)
  held true k cs h = inl (change_held k cs h)
  held false k cs (inl h) = inl (change_held k cs h)
  held false k cs (inr h) = inr (inl (document_held k cs h))

  -- ---- faults

  in_change : (only : Bool) (P : List ℕ → Type 0) (bytes : List ℕ) (f : LoadFault) → ((b : List ℕ) → P b → AsChange (chunk_of 1 b) (Err f)) → Begins 1 P bytes → InChunk only bytes f
  in_change only P bytes f given x = record { chunk = chunk_of 1 x.contents; rest = x.rest; is_chunk = x.is_chunk; bytes_are = x.bytes_are; finds = inl (given x.contents x.has) }

  in_document : (only : Bool) (P : List ℕ → Type 0) (bytes : List ℕ) (f : LoadFault) → ((b : List ℕ) → P b → AsDocument false (chunk_of 0 b) (Err f)) → BeginsDocument only P bytes → InChunk only bytes f
  in_document true P bytes f given x = absurd x
  in_document false P bytes f given x = record { chunk = chunk_of 0 x.contents; rest = x.rest; is_chunk = x.is_chunk; bytes_are = x.bytes_are; finds = inr (inl (given x.contents x.has)) }

  in_barred : (only : Bool) (bytes : List ℕ) → IsDocumentHere only bytes → InChunk only bytes DocumentHere
  in_barred true bytes x = record { chunk = chunk_of 0 x.contents; rest = x.rest; is_chunk = x.is_chunk; bytes_are = x.bytes_are; finds = inr (inr (record { barred = refl; kind = refl; is = refl })) }
  in_barred false bytes x = absurd x

  compressed_change : (b : List ℕ) → IsCompressed b → AsChange (chunk_of 1 b) (Err CompressedColumn)
  compressed_change b x = record { kind = refl; result = Err change_fault.CompressedColumn; judged = x; known = λ e. absurd (cc); is = refl }

  no_change : (b : List ℕ) → AreOfNoChange b → AsChange (chunk_of 1 b) (Err BadChange)
  no_change b x = record { kind = refl; result = Err change_fault.BadChange; judged = (x.plain, x.none); known = λ e. absurd (cc); is = refl }

  compressed_document : (b : List ℕ) → document.IsCompressed b → AsDocument false (chunk_of 0 b) (Err CompressedColumn)
  compressed_document b x = record { allowed = refl; kind = refl; result = Err doc_fault.CompressedColumn; judged = x; by = refl }

  no_table : (b : List ℕ) → AreOfNoTable b → AsDocument false (chunk_of 0 b) (Err BadDocument)
  no_table b x = record { allowed = refl; kind = refl; result = Err doc_fault.BadDocument; judged = (x.plain, x.none); by = refl }

  no_history : (b : List ℕ) → TellNoHistory b → AsDocument false (chunk_of 0 b) (Err NoHistory)
  no_history b x = record {
    allowed = refl;
    kind = refl;
    result = Ok x.table;
    judged = x.spelled;
    by = record { found = Err rebuild_fault.NoHistory; rebuilds = x.none; known = λ e. absurd (cc); is = refl };
  }

  other_heads : (h : Hash) (b : List ℕ) → TellOtherHeads h b → AsDocument false (chunk_of 0 b) (Err (HeadsMismatch h))
  other_heads h b x = record {
    allowed = refl;
    kind = refl;
    result = Ok x.table;
    judged = x.spelled;
    by = record { found = Err (rebuild_fault.HeadsMismatch h); rebuilds = (x.cs, the_history x.table x.cs x.history, x.apart); known = λ e. absurd (cc); is = refl };
  }

  pub where_wrong : (only : Bool) (bytes : List ℕ) (f : LoadFault) → HasFault only bytes f → InFrame bytes f ⊎ InChunk only bytes f
  where_wrong only bytes BadMagic x = inl (record { fault = frame_fault.BadMagic; is = refl; has = x })
  where_wrong only bytes Truncated x = inl (record { fault = frame_fault.Truncated; is = refl; has = x })
  where_wrong only bytes BadLength x = inl (record { fault = frame_fault.BadLength; is = refl; has = x })
  where_wrong only bytes BadChecksum x = inl (record { fault = frame_fault.BadChecksum; is = refl; has = x })
  where_wrong only bytes (ChunkType type) x = inl (record { fault = frame_fault.ChunkType type; is = refl; has = x })
  where_wrong only bytes CompressedChunk x = inl (record { fault = frame_fault.CompressedChunk; is = refl; has = x })
  where_wrong only bytes DocumentHere x = inr (in_barred only bytes x)
  where_wrong only bytes CompressedColumn (inl x) = inr (in_change only IsCompressed bytes CompressedColumn compressed_change x)
  where_wrong only bytes CompressedColumn (inr x) = inr (in_document only document.IsCompressed bytes CompressedColumn compressed_document x)
  where_wrong only bytes BadChange x = inr (in_change only AreOfNoChange bytes BadChange no_change x)
  where_wrong only bytes BadDocument x = inr (in_document only AreOfNoTable bytes BadDocument no_table x)
  where_wrong only bytes NoHistory x = inr (in_document only TellNoHistory bytes NoHistory no_history x)
  where_wrong only bytes (HeadsMismatch h) x = inr (in_document only (TellOtherHeads h) bytes (HeadsMismatch h) (other_heads h) x)
