-- Flags have one list of block lengths, and so one canonical spelling.
--     alternating-counts, counts-alternating     flags and their block lengths are each other's way back
--     CanonFlags_iff, CanonMaybe_iff             the canonical bytes of flags are those of their block lengths
use Rattle.std.proofs.Common.{◌≡◌, ℕ, suc, zero, ◌^◌, ◌<◌, ◌≤◌, List, [], ◌∷◌, ◌++◌, length, Bool, true, false, not, inl, inr, ◌⊎◌, ⊎_elim, ◌↔◌, refl, sym, ap, ◌∙◌, arith}
use Rattle.std.specs.Prelude.{replicate}
use Rattle.std.specs.List.{flat_map, sum}
use Rattle.am_leb.specs.Leb.{uleb}
use Rattle.am_flags.specs.Flags.{alternating, AreCounts, OnlyFirstEmpty, LastStands, CanonFlags, AreFalse, CanonMaybe, one_more, behind_turn, counts_from, canonical_bytes, are_false, chosen_bytes, canonical_maybe_bytes}
use Rattle.am_flags.proofs.Counts.{length-alternating, sum-cons}

same_turn : (flag : Bool) (cs : List ℕ) → behind_turn flag flag cs ≡ cs
same_turn true cs = refl
same_turn false cs = refl

-- ---- the counts of a list spell it

alternating-more : (x : Bool) (cs : List ℕ) → alternating x (one_more cs) ≡ x ∷ alternating x cs
alternating-more x [] = refl
alternating-more x (c ∷ cs) = refl

pub alternating-counts : (flag : Bool) (flags : List Bool) → alternating flag (counts_from flag flags) ≡ flags
alternating-counts flag [] = refl
alternating-counts true (true ∷ flags) = alternating-more true (counts_from true flags) ∙ ap (λ l. true ∷ l) (alternating-counts true flags)
alternating-counts false (false ∷ flags) = alternating-more false (counts_from false flags) ∙ ap (λ l. false ∷ l) (alternating-counts false flags)
alternating-counts true (false ∷ flags) = alternating-more false (counts_from false flags) ∙ ap (λ l. false ∷ l) (alternating-counts false flags)
alternating-counts false (true ∷ flags) = alternating-more true (counts_from true flags) ∙ ap (λ l. true ∷ l) (alternating-counts true flags)

sum-counts : (flag : Bool) (flags : List Bool) → sum (counts_from flag flags) ≡ length flags
sum-counts flag flags = sym (length-alternating flag (counts_from flag flags)) ∙ ap length (alternating-counts flag flags)

more_good : (cs : List ℕ) → sum cs < 2 ^ 63 → OnlyFirstEmpty cs → LastStands cs → AreCounts (one_more cs) × LastStands (one_more cs)
more_good [] h o l = (((omega arith, omega arith), tt), omega arith)
more_good (c ∷ []) h o l = (((omega arith, omega (arith, sum-cons c [])), tt), omega arith)
more_good (c ∷ d ∷ cs) h o l = (((omega arith, omega (arith, sum-cons c (d ∷ cs))), o.1), l)

first_of_counts : (cs : List ℕ) → AreCounts cs → OnlyFirstEmpty cs
first_of_counts [] h = tt
first_of_counts (c ∷ cs) h = (h.0.1, h.1)

stands_behind : (cs : List ℕ) → LastStands (one_more cs) → LastStands (0 ∷ one_more cs)
stands_behind [] h = h
stands_behind (c ∷ cs) h = h

turn_good : (flag x : Bool) (cs : List ℕ) → AreCounts (one_more cs) → LastStands (one_more cs) → OnlyFirstEmpty (behind_turn flag x (one_more cs)) × LastStands (behind_turn flag x (one_more cs))
turn_good true true cs a l = (first_of_counts (one_more cs) a, l)
turn_good false false cs a l = (first_of_counts (one_more cs) a, l)
turn_good true false cs a l = ((omega arith, a), stands_behind cs l)
turn_good false true cs a l = ((omega arith, a), stands_behind cs l)

pub counts_good : (flag : Bool) (flags : List Bool) → length flags ≤ 2 ^ 32 → OnlyFirstEmpty (counts_from flag flags) × LastStands (counts_from flag flags)
counts_good flag [] h = (tt, tt)
counts_good flag (x ∷ flags) h =
    let w = counts_good x flags (omega arith) in
    let m = more_good (counts_from x flags) (omega (arith, sum-counts x flags)) w.0 w.1 in
    turn_good flag x (counts_from x flags) m.0 m.1

-- ---- and no others do

one_flag : (flag : Bool) (rest : List Bool) (c : ℕ) (ds : List ℕ) → counts_from flag rest ≡ c ∷ ds → counts_from flag (flag ∷ rest) ≡ suc c ∷ ds
one_flag flag rest c ds e = same_turn flag (one_more (counts_from flag rest)) ∙ ap one_more e

block : (flag : Bool) (c : ℕ) (rest : List Bool) (ds : List ℕ) → counts_from flag rest ≡ 0 ∷ ds → counts_from flag (replicate c flag ++ rest) ≡ c ∷ ds
block flag zero rest ds e = e
block flag (suc c) rest ds e = one_flag flag (replicate c flag ++ rest) c ds (block flag c rest ds e)

last_block : (flag : Bool) (c : ℕ) → counts_from flag (replicate (suc c) flag ++ []) ≡ suc c ∷ []
last_block flag zero = same_turn flag (1 ∷ [])
last_block flag (suc c) = one_flag flag (replicate (suc c) flag ++ []) (suc c) [] (last_block flag c)

turn : (flag : Bool) (rest : List Bool) → counts_from flag (not flag ∷ rest) ≡ 0 ∷ counts_from (not flag) (not flag ∷ rest)
turn true rest = refl
turn false rest = refl

pub counts-alternating : (flag : Bool) (counts : List ℕ) → OnlyFirstEmpty counts → LastStands counts → counts_from flag (alternating flag counts) ≡ counts
counts-alternating flag [] o l = refl
counts-alternating flag (zero ∷ []) o l = absurd (omega arith)
counts-alternating flag (suc c ∷ []) o l = last_block flag c
counts-alternating flag (c ∷ zero ∷ cs) o l = absurd (omega (arith, o.1.0.0))
counts-alternating flag (c ∷ suc d ∷ cs) o l =
    let rest = alternating (not flag) (suc d ∷ cs) in
    let again = counts-alternating (not flag) (suc d ∷ cs) (o.1.0.1, o.1.1) l in
    block flag c rest (suc d ∷ cs) (turn flag (replicate d (not flag) ++ alternating (not (not flag)) cs) ∙ ap (λ ks. 0 ∷ ks) again)

pub CanonFlags_iff : (flags : List Bool) (bytes : List ℕ) → length flags ≤ 2 ^ 32 → CanonFlags bytes flags ↔ (bytes ≡ canonical_bytes flags)
CanonFlags_iff flags bytes h = (
  λ c. c.3 ∙ ap (flat_map uleb) (sym (counts-alternating false c.0 c.1 c.2) ∙ ap (counts_from false) (sym c.4)),
  λ e. let w = counts_good false flags h in (counts_from false flags, w.0, w.1, e, sym (alternating-counts false flags)),
)

decides : (flags : List Bool) → ((are_false flags ≡ true) × AreFalse flags) ⊎ ((are_false flags ≡ false) × (AreFalse flags → ⊥))
decides [] = inl (refl, tt)
decides (true ∷ flags) = inr (refl, λ a. let e = a.0 in cc)
decides (false ∷ flags) = ⊎_elim (λ w. inl (w.0, (refl, w.1))) (λ w. inr (w.0, λ a. w.1 a.1)) (decides flags)

pub CanonMaybe_iff : (flags : List Bool) (bytes : List ℕ) → length flags ≤ 2 ^ 32 → CanonMaybe bytes flags ↔ (bytes ≡ canonical_maybe_bytes flags)
CanonMaybe_iff flags bytes h = ⊎_elim
    (λ w. (λ c. ⊎_elim (λ a. a.1) (λ n. absurd (n.0 w.1)) c ∙ ap (λ b. chosen_bytes b flags) (sym w.0), λ e. inl (w.1, e ∙ ap (λ b. chosen_bytes b flags) w.0)))
    (λ w. (λ c. ⊎_elim (λ a. absurd (w.1 a.0)) (λ n. (CanonFlags_iff flags bytes h).0 n.1) c ∙ ap (λ b. chosen_bytes b flags) (sym w.0), λ e. inr (w.1, (CanonFlags_iff flags bytes h).1 (e ∙ ap (λ b. chosen_bytes b flags) w.0))))
    (decides flags)
