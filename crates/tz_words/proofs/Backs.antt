-- A run goes back no further than its begin.
use Rattle.std.proofs.Common.{◌≡◌, ◌≤◌, Bool, true, false, cond, List, [], ◌∷◌, Option, Some, None}
use Rattle.std.specs.Prelude.{option_map, option_and_then, codes}
use Rattle.std.specs.Str.{bytes_eq}
use Rattle.tz_words.specs.declared.ranges.Range.{Range}
use Rattle.tz_words.specs.Parts.{Text, Parts, AnyWord, parts_of}
use Rattle.tz_words.specs.StartWords.{StartWords, start_behind, start_with}
use Rattle.tz_words.specs.declared.show.Next.{Next}
use Rattle.tz_words.specs.declared.show.Next.TheVariants as nexts
use Rattle.tz_words.specs.ShowWords.{ShowParts, no_parts, with_words}
use Rattle.tz_words.specs.declared.start.Work.{Work}
use Rattle.tz_words.specs.declared.start.Work.TheVariants as works
use Rattle.tz_words.specs.Run.{view_of}
use Rattle.tz_words.specs.Resume.{resume_behind}
use Rattle.tz_words.specs.Back.{BackWords, back_behind, back_parts}
use Rattle.tz_words.specs.Pair.{pair_behind}
use Rattle.tz_words.specs.Asm.{asm_behind}
use Rattle.tz_words.specs.Dis.{dis_behind}
use Rattle.tz_words.specs.GenWords.{gen_behind}
use Rattle.tz_words.specs.Commands.{Command, Pair, Asm, Dis, Gates, Snap, Show, ShowSaved, Resume, Back, Gen, command_with, run_with, run_parts, run_behind, work_of, show_with, show_next, show_parts, show_behind, command_behind, command_of}
use Rattle.tz_words.proofs.FileNames.{back_in}

-- ---- other commands

never_mapped : {A : Type 0} (make : A → Command) (w : BackWords) → ((x : A) → make x ≡ Back w → ⊥) → (o : Option A) → option_map make o ≡ Some (Back w) → ⊥
never_mapped make w other None e = cc
never_mapped make w other (Some x) e = other x (cc)

never_made : {A : Type 0} (told : A → Option Command) (w : BackWords) → ((x : A) → told x ≡ Some (Back w) → ⊥) → (o : Option A) → option_and_then told o ≡ Some (Back w) → ⊥
never_made told w other None e = cc
never_made told w other (Some x) e = other x e

not_work : (w : BackWords) (work : Work) (s : StartWords) → command_with s work ≡ Back w → ⊥
not_work w (works.Trace view) s e = cc
not_work w works.Full s e = cc
not_work w works.Gates s e = cc
not_work w works.Save s e = cc
not_work w (works.Page ranges) s e = cc

not_run : (w : BackWords) (work : Option Work) (words : List Text) → run_with work words ≡ Some (Back w) → ⊥
not_run w None words e = cc
not_run w (Some work) words e = never_mapped (λ s. command_with s work) w (not_work w work) (start_with words) e

not_show : (w : BackWords) (state : Option Text) (words : List Text) (ranges : List Range) → show_with state words ranges ≡ Some (Back w) → ⊥
not_show w None words ranges e = never_mapped (λ s. Show (record { start = s; ranges = ranges })) w (λ s same. cc) (start_with words) e
not_show w (Some file) [] ranges e = cc
not_show w (Some file) (board ∷ []) ranges e = cc
not_show w (Some file) (board ∷ x ∷ more) ranges e = cc

not_shown : (w : BackWords) (next : Next) (p : ShowParts) → show_next next p ≡ Some (Back w) → ⊥
not_shown w nexts.AnyWord p e = not_show w p.state p.positionals p.ranges e
not_shown w (nexts.ItsValue option) p e = cc
not_shown w nexts.NoOption p e = not_show w p.state p.positionals p.ranges e

-- ---- this one

near_mapped : (w : BackWords) (o : Option BackWords) → ((x : BackWords) → o ≡ Some x → x.back ≤ x.start.steps) → option_map Back o ≡ Some (Back w) → w.back ≤ w.start.steps
near_mapped w None near e = absurd (cc)
near_mapped w (Some x) near e = near w (cc)

near_parts : (o : Option Parts) (x : BackWords) → option_and_then back_parts o ≡ Some x → x.back ≤ x.start.steps
near_parts None x e = absurd (cc)
near_parts (Some p) x e = (back_in (view_of p.values) p.positionals x e).near

-- ---- the words

choice : (is : Bool) (this other : Option Command) (w : BackWords) → (this ≡ Some (Back w) → w.back ≤ w.start.steps) → (other ≡ Some (Back w) → w.back ≤ w.start.steps)
    → cond is this other ≡ Some (Back w) → w.back ≤ w.start.steps
choice true this other w first second e = first e
choice false this other w first second e = second e

near_behind : (name : Text) (words : List Text) (w : BackWords) → command_behind name words ≡ Some (Back w) → w.back ≤ w.start.steps
near_behind name words w =
    choice (bytes_eq name (codes "run")) (run_behind words) _ w
    (λ e. absurd (never_made run_parts w (λ p. not_run w (work_of p.values) p.positionals) (parts_of (codes "view") AnyWord words) e))
    (choice (bytes_eq name (codes "gates")) (option_map Gates (start_behind words)) _ w (λ e. absurd (never_mapped Gates w (λ x same. cc) (start_behind words) e))
    (choice (bytes_eq name (codes "snap")) (option_map Snap (start_behind words)) _ w (λ e. absurd (never_mapped Snap w (λ x same. cc) (start_behind words) e))
    (choice (bytes_eq name (codes "show")) (show_behind words) _ w (λ e. absurd (never_made show_parts w (λ p. not_shown w p.next p) (with_words words no_parts) e))
    (choice (bytes_eq name (codes "resume")) (option_map Resume (resume_behind words)) _ w (λ e. absurd (never_mapped Resume w (λ x same. cc) (resume_behind words) e))
    (choice (bytes_eq name (codes "back")) (option_map Back (back_behind words)) _ w (near_mapped w (back_behind words) (near_parts (parts_of (codes "view") AnyWord words)))
    (choice (bytes_eq name (codes "pair")) (option_map Pair (pair_behind words)) _ w (λ e. absurd (never_mapped Pair w (λ x same. cc) (pair_behind words) e))
    (choice (bytes_eq name (codes "asm")) (option_map Asm (asm_behind words)) _ w (λ e. absurd (never_mapped Asm w (λ x same. cc) (asm_behind words) e))
    (choice (bytes_eq name (codes "dis")) (option_map Dis (dis_behind words)) _ w (λ e. absurd (never_mapped Dis w (λ x same. cc) (dis_behind words) e))
    (choice (bytes_eq name (codes "gen")) (option_map Gen (gen_behind words)) None w (λ e. absurd (never_mapped Gen w (λ x same. cc) (gen_behind words) e))
    (λ e. absurd (cc e)))))))))))

pub goes_near : (words : List Text) (w : BackWords) → command_of words ≡ Some (Back w) → w.back ≤ w.start.steps
goes_near [] w e = absurd (cc)
goes_near (program ∷ []) w e = absurd (cc)
goes_near (program ∷ name ∷ words) w e = near_behind name words w e
