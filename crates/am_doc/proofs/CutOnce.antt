-- Columns are cut out of bytes in one way.
use Rattle.std.proofs.Common.{◌≡◌, ℕ, ◌≤◌, List, ◌++◌, length, take, drop, Result, Ok, sym, ap, ◌∙◌, subst, arith, length-append}
use Rattle.std.proofs.lemmas.List.{take_at, drop_at}
use Rattle.am_colmeta.specs.declared.fault.ColumnFault.{ColumnFault}
use Rattle.am_colmeta.specs.Metadata.{total, listing, body, Ascend}
use Rattle.am_colmeta.specs.Judgement.{AreCompressed, AreKnown, Judges}
use Rattle.am_colmeta.proofs.Cutting.{total-listing}
use Rattle.am_colmeta.proofs.Judging.{one_judgement}
use Rattle.am_doc.specs.Spelling.{AreColumns}

pub as_judged : (listed : List (ℕ × ℕ)) (first known : List ℕ) (columns : List (ℕ × List ℕ)) (r : Result (List (ℕ × List ℕ)) ColumnFault) → (AreCompressed listed → ⊥) → AreColumns known columns
    → listing columns ≡ listed → first ≡ body columns → Judges listed first known r → r ≡ Ok columns
as_judged listed first known columns r plain are e f j =
    one_judgement listed first known r (Ok columns) j (plain, subst Ascend e are.ascend, subst (AreKnown known) e are.known, record { listed_are = e; bytes_are = sym f })

pub room : (listed : List (ℕ × ℕ)) (bytes rest : List ℕ) (columns : List (ℕ × List ℕ)) → listing columns ≡ listed → bytes ≡ body columns ++ rest → total listed ≤ length bytes
room listed bytes rest columns e b =
    let size : total listed ≡ length (body columns) = ap total (sym e) ∙ total-listing columns in
    omega (arith, size, ap length b, length-append (body columns) rest)

pub parts : (listed : List (ℕ × ℕ)) (bytes rest : List ℕ) (columns : List (ℕ × List ℕ)) (n : ℕ) → listing columns ≡ listed → bytes ≡ body columns ++ rest → n ≡ total listed
    → (take n bytes ≡ body columns) × (drop n bytes ≡ rest)
parts listed bytes rest columns n e b m =
    let size : length (body columns) ≡ n = sym (m ∙ ap total (sym e) ∙ total-listing columns) in
    (ap (take n) b ∙ take_at (body columns) rest n size, ap (drop n) b ∙ drop_at (body columns) rest n size)
