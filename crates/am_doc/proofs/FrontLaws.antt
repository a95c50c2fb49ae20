-- The parts of a front, from the left.
use Rattle.std.proofs.Common.{◌≡◌, ℕ, List, ◌++◌, append_assoc, ap, sym, ◌∙◌}
use Rattle.am_types.specs.declared.Hash.{Hash}
use Rattle.am_colmeta.specs.Metadata.{metadata}
use Rattle.am_colmeta.specs.Actors.{actors_bytes}
use Rattle.am_change.specs.Contents.{hashes_bytes}
use Rattle.am_doc.specs.Fronts.{Front, front_bytes}

right : (a b c d r : List ℕ) → (a ++ (b ++ (c ++ d))) ++ r ≡ a ++ (b ++ (c ++ (d ++ r)))
right a b c d r = simp append_assoc

pub from_left : (f : Front) (bytes rest : List ℕ) → bytes ≡ front_bytes f ++ rest
    → bytes ≡ actors_bytes f.actors ++ (hashes_bytes f.heads ++ (metadata f.metas ++ (metadata f.rows ++ rest)))
from_left f bytes rest e = e ∙ right (actors_bytes f.actors) (hashes_bytes f.heads) (metadata f.metas) (metadata f.rows) rest

pub to_left : (f : Front) (bytes rest : List ℕ) → bytes ≡ actors_bytes f.actors ++ (hashes_bytes f.heads ++ (metadata f.metas ++ (metadata f.rows ++ rest)))
    → bytes ≡ front_bytes f ++ rest
to_left f bytes rest e = e ∙ sym (right (actors_bytes f.actors) (hashes_bytes f.heads) (metadata f.metas) (metadata f.rows) rest)

abbrev front_with : List (List ℕ) → List Hash → List (ℕ × ℕ) → List (ℕ × ℕ) → Front
front_with actors heads metas rows = record { actors = actors; heads = heads; metas = metas; rows = rows }

pub front_same : (f g : Front) → f.actors ≡ g.actors → f.heads ≡ g.heads → f.metas ≡ g.metas → f.rows ≡ g.rows → f ≡ g
front_same f g a b c d =
    ap (λ x. front_with x f.heads f.metas f.rows) a
    ∙ ap (λ x. front_with g.actors x f.metas f.rows) b
    ∙ ap (λ x. front_with g.actors g.heads x f.rows) c
    ∙ ap (λ x. front_with g.actors g.heads g.metas x) d
