-- What is read and measured of a valid set doesn't depend on how it is listed, and a document that is loaded gives the set
-- again.
use Rattle.std.proofs.Common.{ℕ, ◌≡◌, ◌<◌, ◌^◌, ◌-◌, List, [], ◌∷◌, ◌++◌, length, find, not, IsPermutation, sym, ap, ◌∙◌, subst, if◌then◌else◌}
use Rattle.std.proofs.lemmas.List.Elements.{All-contains, Contains-append_left}
use Rattle.std.proofs.lemmas.List.Sorted.{IsPermutation-map, length_permutation, list_any-IsPermutation, sum_by-IsPermutation}
use Rattle.am_types.specs.declared.Change.{Change}
use Rattle.am_types.specs.declared.Hash.{Hash}
use Rattle.am_types.specs.Order.{hash_cmp, same as same_by}
use Rattle.am_types.specs.Members.{Member, changes, hashes, heads, holds}
use Rattle.am_types.specs.ValidSets.{Valid}
use Rattle.am_types.proofs.Lists.{all_of}
use Rattle.am_change.specs.Contents.{hash}
use Rattle.am_change.specs.Judgement.{HasOwnHashes}
use Rattle.am_json.specs.declared.Form.{Form}
use Rattle.am_json.specs.declared.Form.TheVariants as form
use Rattle.am_laws.specs.Laws.{ListingIsFree}
use Rattle.am_store.specs.Kept.{Kept, IsKept}
use Rattle.am_store.specs.Inversion.{IsReadBack, DocumentsAreReadBack}
use Rattle.am_store.specs.Saved.{document}
use Rattle.am_session.specs.Replies.{is_refused}
use Rattle.am_session.specs.Bench.{measures_line, measured_as_shown}
use Rattle.am_session.specs.Reading.{reading_by, reading_at, reading}

pub read_alike_at : ListingIsFree → (form : Form) (hs : List Hash) (C D : List Member) → Valid C → IsPermutation C D → reading_at form hs D ≡ reading_at form hs C
read_alike_at law form hs C D valid same =
    let held : (h : Hash) → holds D h ≡ holds C h = λ h. sym (list_any-IsPermutation (same_by hash_cmp h) (hashes C) (hashes D) (IsPermutation-map (λ m. m.hash) C D same)) in
    let seen = ((law C D valid same).at hs).visible in λ i. reading_by (find (λ h. not (held h i)) hs) form (seen i)

pub read_alike : ListingIsFree → (form : Form) (named : List Hash) (C D : List Member) → Valid C → IsPermutation C D → reading form named D ≡ reading form named C
read_alike law form [] C D valid same = ap (λ hs. reading_at form hs D) (law C D valid same).heads ∙ read_alike_at law form (heads C) C D valid same
read_alike law form (h ∷ hs) C D valid same = read_alike_at law form (h ∷ hs) C D valid same

pub document_alike : ListingIsFree → (C D : List Member) → Valid C → IsPermutation C D → document D ≡ document C
document_alike law C D valid same = rw ((law C D valid same).table)

pub measured_alike : ListingIsFree → (C D : List Member) → Valid C → IsPermutation C D → measured_as_shown D ≡ measured_as_shown C
measured_alike law C D valid same =
    let shown = read_alike law form.Winners [] C D valid same in
    let count = length_permutation C D same in
    let operations = sum_by-IsPermutation (λ (c : Change). length c.ops) (changes C) (changes D) (IsPermutation-map (λ m. m.change) C D same) in
    let file = document_alike law C D valid same in
    λ i. if is_refused (shown i) then shown i else measures_line (count i) (operations i) (length (file i)) (length (shown i) - 1)

-- ---- a document that is loaded

pub closed_own : (k : Kept) → IsKept k → HasOwnHashes k.closed
closed_own k is = all_of (λ (m : Member). m.hash.0 ≡ hash m.change) k.closed (λ m c. All-contains (λ (m : Member). m.hash.0 ≡ hash m.change) (k.closed ++ k.waiting) m is.own_hashes (Contains-append_left k.closed k.waiting m c))

pub back : DocumentsAreReadBack → (k : Kept) → IsKept k → (file : List ℕ) → file ≡ document k.closed → length file < 2 ^ 64 → IsReadBack file (record { closed = k.closed; waiting = [] })
back law k is file e short =
    subst (λ bytes. IsReadBack bytes (record { closed = k.closed; waiting = [] })) (sym e)
    (law k.closed is.stored.valid (closed_own k is) (subst (λ bytes. length bytes < 2 ^ 64) e short))
