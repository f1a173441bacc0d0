-- Words that no row of a table takes.
use Rattle.std.proofs.Common.{◌≡◌, ℕ, Bool, true, false, List, [], ◌∷◌, None, Option, refl}
use Rattle.std.specs.Prelude.{is_some, codes, bytes_eq, if◌then◌else◌}
use Rattle.line_protocol.specs.Grammar.{words_of, edit, line_edit, kind_named, request, id, id_of, places, number_of}
use Rattle.ground_num.specs.FirstFault.{Begins}
use Rattle.line_protocol.specs.Fault.{IsEdit, IsLine}
use Rattle.line_protocol.proofs.Splitting.{words_some}

no_row : {X : Type 0} (test : Bool) (row rest : Option X) → row ≡ None → rest ≡ None → (if test then row else rest) ≡ None
no_row true row rest none more = none
no_row false row rest none more = more

-- an edit has more than one word
pub edit_alone : (w : List ℕ) → edit (w ∷ []) ≡ None
unfolding edit line_edit
edit_alone w =
    no_row (bytes_eq w (codes "add")) None _ refl
    (no_row (bytes_eq w (codes "remove")) None _ refl
    (no_row (bytes_eq w (codes "set")) None _ refl
    (no_row (bytes_eq w (codes "line")) None _ refl
    (no_row (bytes_eq w (codes "unline")) None _ refl refl))))

pub no_edit : is_some (edit []) ≡ false
unfolding edit
no_edit = refl

pub no_line : is_some (line_edit []) ≡ false
unfolding line_edit
no_line = refl

-- there is an edit
pub some_edit : Begins IsEdit []
unfolding edit id_of
some_edit = (codes "unline 1", refl)

-- there is a new line
pub some_line : Begins IsLine []
unfolding line_edit kind_named places number_of
some_line = (codes "void 0 0", refl)

-- a word that is none of the single ones
pub request_alone : (w : List ℕ) → bytes_eq w (codes "stat") ≡ false → bytes_eq w (codes "sync") ≡ false → bytes_eq w (codes "commit") ≡ false → bytes_eq w (codes "export") ≡ false → bytes_eq w (codes "quit") ≡ false → request (w ∷ []) ≡ None
unfolding request edit
request_alone w stat sync commit export quit =
    rw (stat, sync, commit, export, quit)
    (no_row (bytes_eq w (codes "plan")) None _ refl
    (no_row (bytes_eq w (codes "do")) None _ refl
    (no_row (bytes_eq w (codes "level")) None _ refl
    (no_row (bytes_eq w (codes "contour")) None _ refl
    (no_row (bytes_eq w (codes "volume")) None _ refl refl)))))

-- a first word that is none of those that take more
pub request_more : (w xs : List ℕ) → bytes_eq w (codes "plan") ≡ false → bytes_eq w (codes "do") ≡ false → bytes_eq w (codes "level") ≡ false → bytes_eq w (codes "contour") ≡ false → bytes_eq w (codes "volume") ≡ false → request (w ∷ words_of xs) ≡ None
unfolding request
request_more w xs plan apply level contour volume =
    rw ((words_some xs).2, plan, apply, level, contour, volume)
    (no_row (bytes_eq w (codes "sync")) None _ refl
    (no_row (bytes_eq w (codes "commit")) None _ refl
    (no_row (bytes_eq w (codes "stat")) None _ refl
    (no_row (bytes_eq w (codes "export")) None _ refl
    (no_row (bytes_eq w (codes "quit")) None _ refl refl)))))

pub no_id : (a xs : List ℕ) → id (a ∷ words_of xs) ≡ None
no_id a xs = rw (words_some xs).2 refl
