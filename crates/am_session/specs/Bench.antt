-- The reply to bench.
--     generated n         the closed set that the delivery of n generated changes to an empty store leaves
--     measured C shown    how much C holds, how long its document is and the text that show prints, which is shown; a
--                         text that show refuses is refused
--     bench_text n        this of n generated changes, of which no line asks for more than 100,000
use Rattle.std.specs.Prelude.{ℕ, ◌-◌, ◌∷◌, List, [], ◌++◌, length, codes, nat_le, sum_by, if◌then◌else◌}
use Rattle.am_types.specs.Members.{Member, changes}
use Rattle.am_json.specs.declared.Form.TheVariants as form
use Rattle.am_store.specs.Kept.{Kept}
use Rattle.am_store.specs.Saved.{document}
use Rattle.am_gen.specs.Made.{made}
use Rattle.am_session.specs.Replies.{newline, refused, is_refused, numbered}
use Rattle.am_session.specs.Apply.{outcome}
use Rattle.am_session.specs.Reading.{reading}

-- the most changes that are generated
abbrev pub MOST : ℕ
MOST = 100000

abbrev pub nothing_kept : Kept
nothing_kept = record { closed = []; waiting = [] }

abbrev pub generated : ℕ → List Member
generated n = (outcome nothing_kept (made n)).closed

abbrev pub measures_line : ℕ → ℕ → ℕ → ℕ → List ℕ
measures_line changes operations bytes json =
    numbered (codes "ok changes ") changes ++ numbered (codes " operations ") operations ++ numbered (codes " bytes ") bytes
    ++ numbered (codes " json ") json ++ newline ∷ []

abbrev pub measures : List Member → List ℕ → List ℕ
measures C shown = measures_line (length C) (sum_by (λ c. length c.ops) (changes C)) (length (document C)) (length shown - 1)

abbrev pub measured : List Member → List ℕ → List ℕ
measured C shown = if is_refused shown then shown else measures C shown

abbrev pub measured_as_shown : List Member → List ℕ
measured_as_shown C = measured C (reading form.Winners [] C)

abbrev pub bench_text : ℕ → List ℕ
bench_text n = if nat_le n MOST then measured_as_shown (generated n) else refused (codes "syntax")
