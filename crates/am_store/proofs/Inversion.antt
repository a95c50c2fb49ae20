-- What a store saves is read back.
use Rattle.std.proofs.Common.{ℕ, ◌≡◌, ◌<◌, ◌≤◌, ◌^◌, false, List, [], ◌∷◌, ◌++◌, length, map, flat_map, Result, Ok, Err, All, IsPermutation, refl, sym, ap, ◌∙◌, subst, inl, inr, arith, length-append, append-nil}
use Rattle.std.specs.List.{AllByRecursion, AllZip}
use Rattle.std.specs.Ordering.{on}
use Rattle.std.proofs.lemmas.List.{map-append}
use Rattle.std.proofs.lemmas.List.Elements.{All-contains, Contains-append_left, recursion_from_All, All-from_recursion}
use Rattle.std.proofs.lemmas.List.Sorted.{IsPermutation-trans, IsPermutation-append, All-permutation}
use Rattle.am_types.specs.declared.Change.{Change}
use Rattle.am_types.specs.declared.Table.{Table}
use Rattle.am_types.specs.Order.{hash_cmp, sorted_by}
use Rattle.am_types.specs.Members.{Member, changes, heads}
use Rattle.am_types.specs.ValidSets.{Valid}
use Rattle.am_types.specs.Canonical.{canonical_cmp, order}
use Rattle.am_types.specs.Deliver.{MayCome, deliver}
use Rattle.am_types.specs.Documents.{table, History}
use Rattle.am_types.proofs.Lists.{all_of}
use Rattle.am_types.proofs.Sorting.{IsPermutation-sorted_by}
use Rattle.am_laws.specs.Laws.{ListingIsFree, ValidSetsKeepRules}
use Rattle.am_frame.specs.Frames.{Chunk, IsChunk, chunk_of, chunk_bytes, check_of, covered, sized, magic}
use Rattle.am_frame.specs.Frames as frames
use Rattle.am_change.specs.Contents.{contents, chunk, hash}
use Rattle.am_change.specs.Hashes.{with_hash, with_hashes}
use Rattle.am_change.specs.Judgement.{HasOwnHashes}
use Rattle.am_doc.specs.declared.fault.DocFault.{DocFault}
use Rattle.am_doc.specs.declared.fault.DocFault.TheVariants as doc_fault
use Rattle.am_doc.specs.Contents.{body}
use Rattle.am_doc.specs.Spelling.{SpellsTable, Judges}
use Rattle.am_histories.specs.Laws.{DocumentIsHistory}
use Rattle.am_delivery.specs.Laws.{Leaves, BothComeBack}
use Rattle.am_store.specs.Kept.{Kept, IsKept}
use Rattle.am_store.specs.Files.{HoldsDocument, Holds, IsFile}
use Rattle.am_store.specs.Laws.{OneReading}
use Rattle.am_store.specs.Saved.{document, chunks, saved_all}
use Rattle.am_store.specs.Inversion.{saved_changes, IsReadBack, DocumentsAreReadBack, FilesAreReadBack}
use Rattle.am_store.proofs.Adopting.{alone_kept}

-- ---- members beside their own hashes

abbrev IsOwn : Member → Type 0
IsOwn m = m.hash.0 ≡ hash m.change

own_again : (C : List Member) → AllByRecursion IsOwn C → with_hashes (changes C) ≡ C
own_again [] own = refl
own_again (m ∷ C) own =
    let first : with_hash m.change ≡ m = λ i. record { hash = record { 0 = sym own.0 i }; change = m.change } in
    let others = own_again C own.1 in
    λ i. first i ∷ others i

-- ---- the chunks of a file

abbrev change_chunk : Member → Chunk
change_chunk m = chunk_of 1 (contents m.change)

abbrev alone : Member → List Change
alone m = m.change ∷ []

chunks_joined : (W : List Member) → flat_map chunk_bytes (map change_chunk W) ≡ chunks W
chunks_joined [] = refl
chunks_joined (m ∷ W) = ap (λ b. chunk m.change ++ b) (chunks_joined W)

changes_joined : (W : List Member) → flat_map (λ l. l) (map alone W) ≡ changes W
changes_joined [] = refl
changes_joined (m ∷ W) = ap (λ cs. m.change ∷ cs) (changes_joined W)

longer : (before bytes : List ℕ) → length bytes ≤ length (before ++ bytes)
longer before bytes = let l = length-append before bytes in omega arith

-- contents are shorter than their chunk
shorter : (kind : ℕ) (bytes rest : List ℕ) → length (frames.framed kind bytes ++ rest) < 2 ^ 64 → (length bytes < 2 ^ 64) × (length rest < 2 ^ 64)
shorter kind bytes rest s =
    let check = check_of kind bytes in
    let l1 = length-append (frames.framed kind bytes) rest in
    let l2 = length-append magic (check ++ covered kind bytes) in
    let l3 = length-append check (covered kind bytes) in
    let l4 : length bytes ≤ length (sized bytes) = longer _ bytes in
    (omega arith, omega arith)

each_short : (W : List Member) → length (chunks W) < 2 ^ 64 → AllByRecursion IsChunk (map change_chunk W)
each_short [] s = tt
each_short (m ∷ W) s = let parts = shorter 1 (contents m.change) (chunks W) s in ((omega arith, parts.0), each_short W parts.1)

hold_changes : (W : List Member) → AllByRecursion MayCome W → AllZip (Holds false) (map change_chunk W) (map alone W)
hold_changes [] come = tt
hold_changes (m ∷ W) come = (inl (m.change, record { kind = refl; fine = (come.0).fine; contents_are = refl }, refl), hold_changes W come.1)

-- ---- the laws below

abbrev pub ContentsSpell : Type 0
ContentsSpell = (C : List Member) → Valid C → length (body (table C)) < 2 ^ 64 → SpellsTable (body (table C)) (table C)

abbrev pub JudgesOnce : Type 0
JudgesOnce = (bytes : List ℕ) (x y : Result Table DocFault) → Judges bytes x → Judges bytes y → x ≡ y

compressed_is_no_table : (t : Table) → Ok t ≡ Err doc_fault.CompressedColumn → ⊥
compressed_is_no_table t e = cc

pub ordered : (C : List Member) → IsPermutation C (order C)
unfolding order
ordered C = IsPermutation-sorted_by (canonical_cmp C) C

pub own_ordered : (C : List Member) → HasOwnHashes C → with_hashes (changes (order C)) ≡ order C
own_ordered C own = own_again (order C) (recursion_from_All IsOwn (order C) (All-permutation IsOwn C (order C) (ordered C) own))

pub heads_stated : (C : List Member) → heads (order C) ≡ heads C → heads (order C) ≡ (table C).heads
unfolding table
heads_stated C e = e

module _ (spell : ContentsSpell) (judges : JudgesOnce) (is_history : DocumentIsHistory) (free : ListingIsFree) (rules : ValidSetsKeepRules) (back : BothComeBack) (reading : OneReading) where
  holds_document : (C : List Member) → Valid C → HasOwnHashes C → length (body (table C)) < 2 ^ 64 → HoldsDocument (chunk_of 0 (body (table C))) (changes (order C))
  holds_document C v own s =
      let spelled = spell C v s in
      let again = own_ordered C own in
      record {
        kind = refl;
        plain = λ h. compressed_is_no_table (table C) (judges (body (table C)) (Ok (table C)) (Err doc_fault.CompressedColumn) spelled h);
        table = table C;
        spelled = spelled;
        history = subst (History (table C)) (sym again) (is_history C v);
        heads_are = ap heads again ∙ heads_stated C (free C (order C) v (ordered C)).heads;
      }

  module _ (k : Kept) (is : IsKept k) (s : length (saved_all k) < 2 ^ 64) where
    abbrev C : List Member
    C = k.closed

    abbrev W : List Member
    W = sorted_by (on (λ (m : Member). m.hash) hash_cmp) k.waiting

    waits : IsPermutation k.waiting W
    waits = IsPermutation-sorted_by (on (λ (m : Member). m.hash) hash_cmp) k.waiting

    both : IsPermutation (k.closed ++ k.waiting) (order C ++ W)
    both = IsPermutation-append k.closed (order C) k.waiting W (ordered C) waits

    own : All IsOwn (order C ++ W)
    own = All-permutation IsOwn (k.closed ++ k.waiting) (order C ++ W) both is.own_hashes

    closed_own : HasOwnHashes C
    closed_own = all_of IsOwn k.closed (λ m c. All-contains IsOwn (k.closed ++ k.waiting) m is.own_hashes (Contains-append_left k.closed k.waiting m c))

    parts : (length (body (table C)) < 2 ^ 64) × (length (chunks W) < 2 ^ 64)
    parts = shorter 0 (body (table C)) (chunks W) s

    may_come : AllByRecursion MayCome W
    may_come = recursion_from_All MayCome W (All-permutation MayCome k.waiting W waits is.stored.waiting)

    members_back : with_hashes (saved_changes k) ≡ order C ++ W
    members_back =
        let joined : changes (order C) ++ changes W ≡ changes (order C ++ W) = sym (map-append (λ (m : Member). m.change) (order C) W) in
        ap with_hashes joined ∙ own_again (order C ++ W) (recursion_from_All IsOwn (order C ++ W) own)

    is_file : IsFile false (saved_all k) (saved_changes k)
    is_file = record {
      chunks = chunk_of 0 (body (table C)) ∷ map change_chunk W;
      lists = changes (order C) ∷ map alone W;
      file = record {
        bytes_are = ap (λ b. document C ++ b) (sym (chunks_joined W));
        each = All-from_recursion IsChunk (chunk_of 0 (body (table C)) ∷ map change_chunk W) ((omega arith, parts.0), each_short W parts.1);
      };
      hold = (inr (holds_document C is.stored.valid closed_own parts.0), hold_changes W may_come);
      are = ap (λ cs. changes (order C) ++ cs) (sym (changes_joined W));
    }

    leaves : (cs : List Change) → cs ≡ saved_changes k → Leaves (deliver [] [] (with_hashes cs)) k.closed k.waiting
    leaves cs e = back k.closed k.waiting (with_hashes cs) is.stored.valid is.stored.settled is.stored.hashes (subst (IsPermutation (k.closed ++ k.waiting)) (sym (ap with_hashes e ∙ members_back)) both)

    pub read_back : IsReadBack (saved_all k) k
    read_back = record {
      file = is_file;
      only = λ cs f. reading.changes false (saved_all k) cs (saved_changes k) f is_file;
      never_bad = λ j fault b. reading.never_both false (saved_all k) (saved_changes k) j fault is_file b;
      again = λ cs report new f d.
          let l = leaves cs (reading.changes false (saved_all k) cs (saved_changes k) f is_file) in
          record {
            closed = IsPermutation-trans k.closed (deliver [] [] (with_hashes cs)).closed new.closed l.closed d.closed;
            waiting = IsPermutation-trans k.waiting (deliver [] [] (with_hashes cs)).waiting new.waiting l.waiting d.waiting;
            rejected = d.rejected ∙ l.rejected;
          };
    }

  -- ---- a set without waiting changes

  pub documents : DocumentsAreReadBack
  documents C v own s =
      let k : Kept = record { closed = C; waiting = [] } in
      let same : saved_all k ≡ document C = append-nil (document C) in
      subst (λ b. IsReadBack b k) same (read_back k (alone_kept rules C v own) (subst (λ b. length b < 2 ^ 64) (sym same) s))

  pub files : FilesAreReadBack
  files k is s = read_back k is s
