-- Look-ups in a folder in memory, whose files stand in a list.
use Rattle.std.proofs.Common.{◌≡◌, ◌≢◌, ℕ, true, false, not, cond, List, [], ◌∷◌, Some, None, string_bytes, refl, sym, ap, ◌∙◌}
use Rattle.std.specs.Prelude.{bytes_eq, filter}
use Rattle.std.proofs.lemmas.Slice.Eq.{bytes_eq-Decides}
use Rattle.std.specs.Ordering.{nat_cmp}
use Rattle.std.specs.Cmp.Lexicographic.{slice_cmp, nat_list_cmp_total}
use Rattle.std.specs.FinMap.{get, insert, get-empty, get-insert}
use Rattle.std.proofs.lemmas.Map.Text.{is_eq-slice_cmp}
use Rattle.am_outside.specs.Files.{Files}
use Rattle.am_outside.specs.Stored.{files_of}
use Rattle.am_outside.specs.declared.stored_files.File.{File}

pub get-put : (files : Files) (key bytes name : List ℕ) → get (insert files key bytes) name ≡ cond (bytes_eq name key) (Some bytes) (get files name)
get-put files key bytes name =
    get-insert nat_list_cmp_total files key bytes name
    ∙ ap (λ b. cond b (Some bytes) (get files name)) (is_eq-slice_cmp name key)

pub nothing : (name : List ℕ) → get (files_of []) name ≡ None
nothing name = get-empty (slice_cmp nat_cmp) name

pub found : (file : File) (files : List File) (name : List ℕ) → bytes_eq name (string_bytes file.name) ≡ true → get (files_of (file ∷ files)) name ≡ Some file.bytes.items
found file files name e =
    get-put (files_of files) (string_bytes file.name) file.bytes.items name
    ∙ ap (λ b. cond b (Some file.bytes.items) (get (files_of files) name)) e

pub passed : (file : File) (files : List File) (name : List ℕ) → bytes_eq name (string_bytes file.name) ≡ false → get (files_of (file ∷ files)) name ≡ get (files_of files) name
passed file files name e =
    get-put (files_of files) (string_bytes file.name) file.bytes.items name
    ∙ ap (λ b. cond b (Some file.bytes.items) (get (files_of files) name)) e

differs : (a b : List ℕ) → a ≢ b → bytes_eq a b ≡ false
differs a b n = elim (bytes_eq a b) as (λ r. (r ≡ true → a ≡ b) → r ≡ false) [ true ↦ λ d. absurd (n (d refl)) | false ↦ λ d. refl ] (bytes_eq-Decides a b).0

same : (a b : List ℕ) → bytes_eq a b ≡ true → a ≡ b
same a b = (bytes_eq-Decides a b).0

-- the files of other names stand as they did
pub others_stay : (name other : List ℕ) → other ≢ name → (files : List File) → get (files_of (filter (λ file. not (bytes_eq name (string_bytes file.name))) files)) other ≡ get (files_of files) other
others_stay name other n [] = refl
others_stay name other n (file ∷ files) =
    let rest = others_stay name other n files in
    elim (bytes_eq name (string_bytes file.name)) as (λ b. bytes_eq name (string_bytes file.name) ≡ b → get (files_of (cond (not b) (file ∷ filter (λ file. not (bytes_eq name (string_bytes file.name))) files) (filter (λ file. not (bytes_eq name (string_bytes file.name))) files))) other ≡ get (files_of (file ∷ files)) other) [
      | true ↦ λ e. rest ∙ sym (passed file files other (differs other (string_bytes file.name) (λ p. n (p ∙ sym (same name (string_bytes file.name) e)))))
      | false ↦ λ e. get-put _ _ _ other ∙ ap (cond (bytes_eq other (string_bytes file.name)) (Some file.bytes.items)) rest ∙ sym (get-put _ _ _ other)
    ] refl
