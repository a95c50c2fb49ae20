-- A body that is cut into columns, and what is cut together.
use Rattle.std.proofs.Common.{◌≡◌, ℕ, suc, zero, ◌+◌, ◌<◌, ◌≤◌, List, [], ◌∷◌, ◌++◌, length, take, drop, refl, sym, ap, ◌∙◌, arith, length-append}
use Rattle.std.proofs.lemmas.List.{take_at, drop_at, take-append-drop, length-drop, take-append-le, drop-append-le, take_all}
use Rattle.am_colmeta.specs.Metadata.{total, listing, body, Ascend, AscendFrom}
use Rattle.am_colmeta.specs.Judgement.{AreCut}
use Rattle.am_colmeta.specs.Reading.{cut}
use Rattle.am_colmeta.specs.Writing.{IsAbove}

taken : (n : ℕ) (l : List ℕ) → n ≤ length l → length (take n l) ≡ n
taken zero l h = refl
taken (suc n) [] h = absurd (omega arith)
taken (suc n) (x ∷ l) h = ap suc (taken n l (omega arith))

pub listing-cut : (listed : List (ℕ × ℕ)) (bytes : List ℕ) → total listed ≤ length bytes → listing (cut listed bytes) ≡ listed
listing-cut [] bytes h = refl
listing-cut ((specification, width) ∷ listed) bytes h =
    let more = listing-cut listed (drop width bytes) (omega (arith, length-drop width bytes)) in
    let here = taken width bytes (omega arith) in
    ap (λ n. (specification, n) ∷ listing (cut listed (drop width bytes))) here ∙ ap (λ l. (specification, width) ∷ l) more

no_bytes : (bytes : List ℕ) → 0 ≡ length bytes → [] ≡ bytes
no_bytes [] e = refl
no_bytes (b ∷ bytes) e = absurd (omega arith)

pub body-cut : (listed : List (ℕ × ℕ)) (bytes : List ℕ) → total listed ≡ length bytes → body (cut listed bytes) ≡ bytes
body-cut [] bytes e = no_bytes bytes e
body-cut (pair ∷ listed) bytes e =
    ap (λ l. take pair.1 bytes ++ l) (body-cut listed (drop pair.1 bytes) (omega (arith, length-drop pair.1 bytes))) ∙ take-append-drop pair.1 bytes

pub cut_is_cut : (listed : List (ℕ × ℕ)) (bytes : List ℕ) → total listed ≡ length bytes → AreCut listed bytes (cut listed bytes)
cut_is_cut listed bytes e = record { listed_are = listing-cut listed bytes (omega arith); bytes_are = body-cut listed bytes e }

-- ---- the columns of a listing and a body are the ones that cut gives

pub cut-whole : (columns : List (ℕ × List ℕ)) → cut (listing columns) (body columns) ≡ columns
cut-whole [] = refl
cut-whole ((specification, bytes) ∷ columns) =
    ap (λ l. (specification, l) ∷ cut (listing columns) (drop (length bytes) (bytes ++ body columns))) (take_at bytes (body columns) (length bytes) refl)
    ∙ ap (λ l. (specification, bytes) ∷ cut (listing columns) l) (drop_at bytes (body columns) (length bytes) refl)
    ∙ ap (λ l. (specification, bytes) ∷ l) (cut-whole columns)

pub cut_is_only : (listed : List (ℕ × ℕ)) (bytes : List ℕ) (columns : List (ℕ × List ℕ)) → AreCut listed bytes columns → columns ≡ cut listed bytes
cut_is_only listed bytes columns h = sym (cut-whole columns) ∙ ap (λ l. cut l (body columns)) h.listed_are ∙ ap (cut listed) h.bytes_are

pub total-listing : (columns : List (ℕ × List ℕ)) → total (listing columns) ≡ length (body columns)
total-listing [] = refl
total-listing ((specification, bytes) ∷ columns) = omega (arith, total-listing columns, length-append bytes (body columns))

pub cut_fills : (listed : List (ℕ × ℕ)) (bytes : List ℕ) (columns : List (ℕ × List ℕ)) → AreCut listed bytes columns → total listed ≡ length bytes
cut_fills listed bytes columns h = sym (ap total h.listed_are) ∙ total-listing columns ∙ ap length h.bytes_are

-- ---- one more column

pub total-push : (listed : List (ℕ × ℕ)) (specification width : ℕ) → total (listed ++ (specification, width) ∷ []) ≡ total listed + width
total-push [] specification width = omega arith
total-push (pair ∷ listed) specification width = omega (arith, total-push listed specification width)

pub cut-push : (listed : List (ℕ × ℕ)) (bytes more : List ℕ) (specification : ℕ) → total listed ≡ length bytes → cut (listed ++ (specification, length more) ∷ []) (bytes ++ more) ≡ cut listed bytes ++ (specification, more) ∷ []
cut-push [] bytes more specification e = ap (λ l. (specification, l) ∷ []) (ap (take (length more)) (ap (λ l. l ++ more) (sym (no_bytes bytes e))) ∙ take_all (length more) more (omega arith))
cut-push (pair ∷ listed) bytes more specification e =
    let room : pair.1 ≤ length bytes = omega arith in
    ap (λ l. (pair.0, l) ∷ cut (listed ++ (specification, length more) ∷ []) (drop pair.1 (bytes ++ more))) (take-append-le pair.1 bytes more room)
    ∙ ap (λ l. (pair.0, take pair.1 bytes) ∷ cut (listed ++ (specification, length more) ∷ []) l) (drop-append-le pair.1 bytes more room)
    ∙ ap (λ l. (pair.0, take pair.1 bytes) ∷ l) (cut-push listed (drop pair.1 bytes) more specification (omega (arith, length-drop pair.1 bytes)))

AscendFrom-push : (before : ℕ) (listed : List (ℕ × ℕ)) (bytes : List ℕ) (specification width : ℕ) → AscendFrom before listed → before < specification → IsAbove specification (cut listed bytes) → AscendFrom before (listed ++ (specification, width) ∷ [])
AscendFrom-push before [] bytes specification width h b a = (b, tt)
AscendFrom-push before (pair ∷ listed) bytes specification width h b a = (h.0, AscendFrom-push pair.0 listed (drop pair.1 bytes) specification width h.1 a.0 a.1)

pub Ascend-push : (listed : List (ℕ × ℕ)) (bytes : List ℕ) (specification width : ℕ) → Ascend listed → IsAbove specification (cut listed bytes) → Ascend (listed ++ (specification, width) ∷ [])
Ascend-push [] bytes specification width h a = tt
Ascend-push (pair ∷ listed) bytes specification width h a = AscendFrom-push pair.0 listed (drop pair.1 bytes) specification width h a.0 a.1
