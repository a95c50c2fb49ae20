-- The metadata that a writer leaves: the entries of the columns that are not empty.
use Rattle.std.proofs.Common.{◌≡◌, ℕ, suc, true, false, Bool, cond, nat_lt, List, [], ◌∷◌, ◌++◌, length, refl, sym, ap, ◌∙◌, arith}
use Rattle.std.specs.Prelude.{filter}
use Rattle.std.specs.List.{flat_map, count_by}
use Rattle.std.proofs.lemmas.Bool.Decides.{nat_tests}
use Rattle.std.proofs.lemmas.List.Sums.{length-filter}
use Rattle.am_colmeta.specs.Metadata.{pair_bytes, metadata, listing, not_empty, body}
use Rattle.am_colmeta.specs.Writing.{has_length, entry_bytes}
use Rattle.am_leb.specs.Leb.{uleb}

kept : (b : Bool) (pair : ℕ × ℕ) (listed : List (ℕ × ℕ)) → flat_map entry_bytes listed ≡ flat_map pair_bytes (filter has_length listed)
    → cond b (pair_bytes pair) [] ++ flat_map entry_bytes listed ≡ flat_map pair_bytes (cond b (pair ∷ filter has_length listed) (filter has_length listed))
kept true pair listed e = ap (λ l. pair_bytes pair ++ l) e
kept false pair listed e = e

entries-kept : (listed : List (ℕ × ℕ)) → flat_map entry_bytes listed ≡ flat_map pair_bytes (filter has_length listed)
entries-kept [] = refl
entries-kept (pair ∷ listed) = kept (has_length pair) pair listed (entries-kept listed)

-- what is written are the metadata of the columns that have bytes
pub metadata-entries : (listed : List (ℕ × ℕ)) → uleb (count_by has_length listed) ++ flat_map entry_bytes listed ≡ metadata (filter has_length listed)
metadata-entries listed = (λ j. uleb (sym (length-filter has_length listed) j) ++ entries-kept listed j)

pub listing-kept : (columns : List (ℕ × List ℕ)) → filter has_length (listing columns) ≡ listing (not_empty columns)
listing-kept [] = refl
listing-kept ((specification, []) ∷ columns) = listing-kept columns
listing-kept ((specification, (byte ∷ bytes)) ∷ columns) =
    let t : nat_lt 0 (suc (length bytes)) ≡ true = grind (arith, nat_tests) in
    ap (λ b. cond b ((specification, suc (length bytes)) ∷ filter has_length (listing columns)) (filter has_length (listing columns))) t
    ∙ ap (λ l. (specification, suc (length bytes)) ∷ l) (listing-kept columns)

pub body-not_empty : (columns : List (ℕ × List ℕ)) → body (not_empty columns) ≡ body columns
body-not_empty [] = refl
body-not_empty ((specification, []) ∷ columns) = body-not_empty columns
body-not_empty ((specification, (byte ∷ bytes)) ∷ columns) = ap (λ l. (byte ∷ bytes) ++ l) (body-not_empty columns)
