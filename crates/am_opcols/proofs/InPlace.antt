-- Columns that are written one behind another into one body, and listed with their lengths.
use Rattle.std.proofs.Common.{◌≡◌, ℕ, ◌+◌, List, [], ◌∷◌, ◌++◌, length, sym, ap, ◌∙◌, arith, append_assoc}
use Rattle.std.proofs.lemmas.List.{append-nil, length-append, map-append}
use Rattle.am_colmeta.specs.Metadata.{listing, body}
use Rattle.am_fields.specs.Columns.{Cells, Column, spelling, spellings}

-- these are the body and the listing of the canonical columns of what cs hold
pub record Placed (actors : List (List ℕ)) (bytes : List ℕ) (listed : List (ℕ × ℕ)) (cs : List Column) : Type 0 where
  pub body_is : bytes ≡ body (spellings actors cs)
  pub listing_is : listed ≡ listing (spellings actors cs)

pub none_placed : (actors : List (List ℕ)) (bytes : List ℕ) (listed : List (ℕ × ℕ)) → bytes ≡ [] → listed ≡ [] → Placed actors bytes listed []
none_placed actors bytes listed b l = record { body_is = b; listing_is = l }

body-push : (columns : List (ℕ × List ℕ)) (specification : ℕ) (bytes : List ℕ) → body (columns ++ (specification, bytes) ∷ []) ≡ body columns ++ bytes
body-push [] specification bytes = append-nil bytes
body-push (column ∷ columns) specification bytes = ap (λ l. column.1 ++ l) (body-push columns specification bytes) ∙ sym (append_assoc column.1 (body columns) bytes)

-- and one more
pub place : {actors : List (List ℕ)} {bytes : List ℕ} {listed : List (ℕ × ℕ)} {cs : List Column} (s : ℕ) (c : Cells) {at : ℕ} {after more : List ℕ} {next : List (ℕ × ℕ)}
    → Placed actors bytes listed cs → at ≡ length bytes → after ≡ bytes ++ more → more ≡ spelling actors c
    → ((n : ℕ) → at + n ≡ length after → next ≡ listed ++ (s, n) ∷ []) → Placed actors after next (cs ++ (s, c) ∷ [])
place {actors = actors} {bytes = bytes} {listed = listed} {cs = cs} s c {at = at} {after = after} {more = more} before here e m l =
    let column : ℕ × List ℕ = (s, spelling actors c) in
    let columns : spellings actors (cs ++ (s, c) ∷ []) ≡ spellings actors cs ++ column ∷ [] = map-append {B = ℕ × List ℕ} (λ c. (c.0, spelling actors c.1)) cs ((s, c) ∷ []) in
    record {
      body_is = e ∙ (λ j. before.body_is j ++ m j) ∙ sym (ap body columns ∙ body-push (spellings actors cs) s (spelling actors c));
      listing_is = l (length (spelling actors c)) (omega (arith, here, ap length e, length-append bytes more, ap length m))
          ∙ ap (λ zs. zs ++ (s, length (spelling actors c)) ∷ []) before.listing_is
          ∙ sym (ap listing columns ∙ map-append {B = ℕ × ℕ} (λ column. (column.0, length column.1)) (spellings actors cs) (column ∷ []));
    }
