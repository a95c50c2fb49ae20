-- What may be wrong with a chunk: no two faults apply at once, and none where a chunk begins.
use Rattle.std.proofs.Common.{◌≡◌, ℕ, List, [], ◌∷◌, ◌++◌, length, take, drop, refl, sym, ap, ◌∙◌, arith, append_assoc, append-nil, length-append}
use Rattle.std.proofs.Math.Seq.{drop-append_seam}
use Rattle.std.proofs.lemmas.List.{take_all}
use Rattle.am_leb.specs.Leb.{uleb}
use Rattle.am_frame.specs.Frames.{magic, sized, covered, frame_with, check_of, IsCut, Chunk, IsChunk, chunk_bytes}
use Rattle.am_frame.specs.Faults.{HasFault, IsBadMagic, IsTruncated, IsBadLength}
use Rattle.am_frame.specs.declared.fault.FrameFault.{FrameFault}
use Rattle.am_frame.specs.declared.fault.FrameFault.TheVariants.{BadMagic, Truncated, BadLength, BadChecksum, ChunkType, CompressedChunk}
use Rattle.am_frame.proofs.Parts.{frame_parts, chunk_cut}
use Rattle.am_frame.proofs.OneChunk.{one_sized}

one_cut : (b s c r t d q : List ℕ) (k l : ℕ) → IsCut b s k c r → IsCut b t l d q → (s ≡ t) × (k ≡ l) × (c ≡ d) × (r ≡ q)
one_cut b s c r t d q k l x y =
    let head = drop 4 b in
    let body = drop 4 head in
    let left = frame_parts b head body (drop 1 body) s c r k refl refl refl x in
    let right = frame_parts b head body (drop 1 body) t d q l refl refl refl y in
    let rest = one_sized c d r q x.within y.within (sym left.2 ∙ right.2) in
    (sym left.0 ∙ right.0, sym left.1 ∙ right.1, rest.0, rest.1)

-- the checksum of a frame is right in each of its readings
right_again : (b s c r t d q : List ℕ) (k l : ℕ) → IsCut b s k c r → IsCut b t l d q → s ≡ check_of k c → t ≡ check_of l d
right_again b s c r t d q k l x y e =
    let same = one_cut b s c r t d q k l x y in
    sym same.0 ∙ e ∙ ap (λ n. check_of n c) same.1 ∙ ap (check_of l) same.2

-- what stands behind the type
behind : List ℕ → List ℕ
behind b = drop 1 (drop 4 (drop 4 b))

tail_is : (b checksum rest : List ℕ) (kind : ℕ) → length checksum ≡ 4 → b ≡ magic ++ (checksum ++ kind ∷ rest) → behind b ≡ rest
unfolding behind
tail_is b checksum rest kind four e =
    ap (λ x. drop 1 (drop 4 (drop 4 x))) e ∙ ap (λ n. drop 1 (drop n (checksum ++ kind ∷ rest))) (sym four) ∙ ap (drop 1) (drop-append_seam checksum (kind ∷ rest))

cut_tail : (b s c r : List ℕ) (k : ℕ) → IsCut b s k c r → behind b ≡ sized c ++ r
cut_tail b s c r k x = tail_is b s (sized c ++ r) k x.checksum_is (x.bytes_are ∙ ap (λ t. magic ++ t) (append_assoc s (covered k c) r))

longer : (b s c r : List ℕ) (k : ℕ) (more : List ℕ) → IsCut b s k c r → IsCut (b ++ more) s k c (r ++ more)
longer b s c r k more x = record { checksum_is = x.checksum_is; within = x.within; bytes_are = ap (λ t. t ++ more) x.bytes_are ∙ append_assoc (frame_with s k c) r more }

whole_cut : (b : List ℕ) (t : IsTruncated b) → IsCut (b ++ t.more) t.checksum t.kind t.contents []
whole_cut b t = record { checksum_is = t.checksum_is; within = t.within; bytes_are = t.whole ∙ sym (append-nil (frame_with t.checksum t.kind t.contents)) }

-- a front of what begins with the magic
front : (b more tail : List ℕ) → b ++ more ≡ magic ++ tail → take 4 b ≡ take (length b) magic
front [] more tail e = refl
front (v ∷ []) more tail e = let one : v ≡ 0x85 = cc in λ i. one i ∷ []
front (v ∷ w ∷ []) more tail e = let one : v ≡ 0x85 = cc in let two : w ≡ 0x6f = cc in λ i. one i ∷ two i ∷ []
front (v ∷ w ∷ x ∷ []) more tail e = let one : v ≡ 0x85 = cc in let two : w ≡ 0x6f = cc in let three : x ≡ 0x4a = cc in λ i. one i ∷ two i ∷ three i ∷ []
front (v ∷ w ∷ x ∷ y ∷ ys) more tail e = let one : v ≡ 0x85 = cc in let two : w ≡ 0x6f = cc in let three : x ≡ 0x4a = cc in let four : y ≡ 0x83 = cc in (λ i. one i ∷ two i ∷ three i ∷ four i ∷ []) ∙ sym (take_all (length (v ∷ w ∷ x ∷ y ∷ ys)) magic (omega arith))

magic_not_truncated : (b : List ℕ) → IsBadMagic b → IsTruncated b → ⊥
magic_not_truncated b p q = p (front b q.more _ q.whole)

magic_not_length : (b : List ℕ) → IsBadMagic b → IsBadLength b → ⊥
magic_not_length b p q = p (front b [] _ (append-nil b ∙ q.bytes_are))

magic_not_cut : (b s c r : List ℕ) (k : ℕ) → IsBadMagic b → IsCut b s k c r → ⊥
magic_not_cut b s c r k p q = p (front b [] ((s ++ covered k c) ++ r) (append-nil b ∙ q.bytes_are))

truncated_not_length : (b : List ℕ) → IsTruncated b → IsBadLength b → ⊥
truncated_not_length b p q =
    let left : behind (b ++ p.more) ≡ sized p.contents = cut_tail (b ++ p.more) _ _ _ _ (whole_cut b p) ∙ append-nil (sized p.contents) in
    let all : b ++ p.more ≡ magic ++ (q.checksum ++ q.kind ∷ (q.rest ++ p.more)) = ap (λ t. t ++ p.more) q.bytes_are ∙ ap (λ t. magic ++ t) (append_assoc q.checksum (q.kind ∷ q.rest) p.more) in
    let right : behind (b ++ p.more) ≡ q.rest ++ p.more = tail_is (b ++ p.more) q.checksum (q.rest ++ p.more) q.kind q.checksum_is all in
    q.bad p.more (length p.contents) p.contents p.within (sym right ∙ left)

truncated_not_cut : (b s c r : List ℕ) (k : ℕ) → IsTruncated b → IsCut b s k c r → ⊥
truncated_not_cut b s c r k p q =
    let same = one_cut (b ++ p.more) _ _ _ _ _ _ _ _ (longer b s c r k p.more q) (whole_cut b p) in
    omega (arith, ap length same.3, length-append r p.more, p.some)

length_not_cut : (b s c r : List ℕ) (k : ℕ) → IsBadLength b → IsCut b s k c r → ⊥
length_not_cut b s c r k p q =
    let right : behind b ≡ p.rest = tail_is b p.checksum p.rest p.kind p.checksum_is p.bytes_are in
    p.bad [] (length c) (c ++ r) q.within (append-nil p.rest ∙ sym right ∙ cut_tail b s c r k q ∙ append_assoc (uleb (length c)) c r)

-- a fault and a chunk never stand at one place
pub none_at_a_chunk : (b : List ℕ) (chunk : Chunk) (rest : List ℕ) (fault : FrameFault) → IsChunk chunk → b ≡ chunk_bytes chunk ++ rest → HasFault b fault → ⊥
none_at_a_chunk b chunk rest BadMagic is e p = magic_not_cut b _ _ _ _ p (chunk_cut b chunk rest is e)
none_at_a_chunk b chunk rest Truncated is e p = truncated_not_cut b _ _ _ _ p (chunk_cut b chunk rest is e)
none_at_a_chunk b chunk rest BadLength is e p = length_not_cut b _ _ _ _ p (chunk_cut b chunk rest is e)
none_at_a_chunk b chunk rest BadChecksum is e p = p.5 (right_again b _ _ _ _ _ _ _ _ (chunk_cut b chunk rest is e) p.4 refl)
none_at_a_chunk b chunk rest (ChunkType n) is e p = let same = one_cut b _ _ _ _ _ _ _ _ (chunk_cut b chunk rest is e) p.4 in omega (arith, same.1, is.0, p.5.1, p.5.2)
none_at_a_chunk b chunk rest CompressedChunk is e p = let same = one_cut b _ _ _ _ _ _ _ _ (chunk_cut b chunk rest is e) p.4 in omega (arith, same.1, is.0, p.5.1)

pub one_fault : (b : List ℕ) (fault other : FrameFault) → HasFault b fault → HasFault b other → fault ≡ other
one_fault b BadMagic BadMagic p q = refl
one_fault b BadMagic Truncated p q = absurd (magic_not_truncated b p q)
one_fault b BadMagic BadLength p q = absurd (magic_not_length b p q)
one_fault b BadMagic BadChecksum p q = absurd (magic_not_cut b _ _ _ _ p q.4)
one_fault b BadMagic (ChunkType n) p q = absurd (magic_not_cut b _ _ _ _ p q.4)
one_fault b BadMagic CompressedChunk p q = absurd (magic_not_cut b _ _ _ _ p q.4)
one_fault b Truncated BadMagic p q = absurd (magic_not_truncated b q p)
one_fault b Truncated Truncated p q = refl
one_fault b Truncated BadLength p q = absurd (truncated_not_length b p q)
one_fault b Truncated BadChecksum p q = absurd (truncated_not_cut b _ _ _ _ p q.4)
one_fault b Truncated (ChunkType n) p q = absurd (truncated_not_cut b _ _ _ _ p q.4)
one_fault b Truncated CompressedChunk p q = absurd (truncated_not_cut b _ _ _ _ p q.4)
one_fault b BadLength BadMagic p q = absurd (magic_not_length b q p)
one_fault b BadLength Truncated p q = absurd (truncated_not_length b q p)
one_fault b BadLength BadLength p q = refl
one_fault b BadLength BadChecksum p q = absurd (length_not_cut b _ _ _ _ p q.4)
one_fault b BadLength (ChunkType n) p q = absurd (length_not_cut b _ _ _ _ p q.4)
one_fault b BadLength CompressedChunk p q = absurd (length_not_cut b _ _ _ _ p q.4)
one_fault b BadChecksum BadMagic p q = absurd (magic_not_cut b _ _ _ _ q p.4)
one_fault b BadChecksum Truncated p q = absurd (truncated_not_cut b _ _ _ _ q p.4)
one_fault b BadChecksum BadLength p q = absurd (length_not_cut b _ _ _ _ q p.4)
one_fault b BadChecksum BadChecksum p q = refl
one_fault b BadChecksum (ChunkType n) p q = absurd (p.5 (right_again b _ _ _ _ _ _ _ _ q.4 p.4 q.5.0))
one_fault b BadChecksum CompressedChunk p q = absurd (p.5 (right_again b _ _ _ _ _ _ _ _ q.4 p.4 q.5.0))
one_fault b (ChunkType m) BadMagic p q = absurd (magic_not_cut b _ _ _ _ q p.4)
one_fault b (ChunkType m) Truncated p q = absurd (truncated_not_cut b _ _ _ _ q p.4)
one_fault b (ChunkType m) BadLength p q = absurd (length_not_cut b _ _ _ _ q p.4)
one_fault b (ChunkType m) BadChecksum p q = absurd (q.5 (right_again b _ _ _ _ _ _ _ _ p.4 q.4 p.5.0))
one_fault b (ChunkType m) (ChunkType n) p q = let same = one_cut b _ _ _ _ _ _ _ _ p.4 q.4 in ap (λ t. ChunkType t) (sym p.5.1 ∙ same.1 ∙ q.5.1)
one_fault b (ChunkType m) CompressedChunk p q = let same = one_cut b _ _ _ _ _ _ _ _ p.4 q.4 in absurd (omega (arith, same.1, p.5.1, p.5.2, q.5.1))
one_fault b CompressedChunk BadMagic p q = absurd (magic_not_cut b _ _ _ _ q p.4)
one_fault b CompressedChunk Truncated p q = absurd (truncated_not_cut b _ _ _ _ q p.4)
one_fault b CompressedChunk BadLength p q = absurd (length_not_cut b _ _ _ _ q p.4)
one_fault b CompressedChunk BadChecksum p q = absurd (q.5 (right_again b _ _ _ _ _ _ _ _ p.4 q.4 p.5.0))
one_fault b CompressedChunk (ChunkType n) p q = let same = one_cut b _ _ _ _ _ _ _ _ p.4 q.4 in absurd (omega (arith, same.1, p.5.1, q.5.1, q.5.2))
one_fault b CompressedChunk CompressedChunk p q = refl
