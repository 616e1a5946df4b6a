-- Lent forms: every sound tree with its cells is served by the rules, and only their forms are.
-- Assumes nothing.
use Prim.Native.Nat.{ℕ, ◌≤◌}
use mathlib.Core.Path.{◌≡◌, refl, ap, ap₂, ◌∙◌}
use mathlib.Core.Bool.{true, ◌&&◌}
use mathlib.Core.List.{List}
use mathlib.Core.Logic.{◌↔◌}
use lib.ListN.{length}
use lib.Dec.{eqb}
use Rattle.protocol.specs.Bytes.{Bytes}
use Rattle.protocol.specs.Frame.{received, frame, datagram}
use Rattle.protocol.specs.Tree.{Tree, Cell, sound, cells_sound}
use Rattle.protocol.specs.Answer.{answer}
use Rattle.protocol.proofs.TestLaws.{and_left, and_right, and_both}
use Rattle.protocol.proofs.FrameLaws.{read_frame-frame, if_sized-sized, read_datagram-datagram}
use Rattle.tree.specs.Form.{tree_form}
use Rattle.tree.specs.Seen.{seen, same}
use Rattle.soundness.specs.Sound.{is_tree, tree_of}
use Rattle.cells.specs.Cells.{cells_form, cells_in, has_cells}
use Rattle.cells.specs.Lent.{is_lent}
use Rattle.tree.proofs.FoundLaws.{if_some}
use Rattle.tree.proofs.SameLaws.{same_eq}
use Rattle.soundness.proofs.FormLaws.{sound_parts, form_seen, form_tree}
use Rattle.cells.proofs.CellLaws.{in_width, cells_in_form, cells_fit, has_form_lem, lent_form}
use Rattle.answer.specs.Serve.{in_form, Call, serving, data_call, serial_call, udp_call}
use Rattle.answer.proofs.ServeLaws.{serve_good}
use Rattle.demands.specs.Forms.{ServesForms, AreForms, FormsAnswered}

-- The words of sound cells are of 32 bits, and the cells that lie beside a lent tree are sound for it.
pub cells_width : (t : Tree) (cs : List Cell) → cells_sound t cs ≡ true → in_width cs ≡ true
unfolding cells_sound
cells_width t cs h = and_right (eqb (length cs) (length t.properties)) (in_width cs) h

pub cells_sound_in : (tree cells : List ℕ) → Bytes cells → is_lent tree cells ≡ true → cells_sound (seen tree) (cells_in cells) ≡ true
unfolding cells_sound is_lent
cells_sound_in tree cells all l =
    and_both (and_right (has_cells cells) _ (and_right (is_tree tree) _ l)) (cells_fit cells all)

module _ (t : Tree) (cs : List Cell) (ok : sound t ≡ true) (fit : cells_sound t cs ≡ true) where
  counted : eqb (length cs) (length t.properties) ≡ true
  unfolding cells_sound
  counted = and_left (eqb (length cs) (length t.properties)) (in_width cs) fit

  pub tree_read : seen (tree_form t) ≡ t
  tree_read = form_seen t (sound_parts t ok)

  pub cells_read : cells_in (cells_form cs) ≡ cs
  cells_read = cells_in_form cs (cells_width t cs fit)

  pub forms_lent : is_lent (tree_form t) (cells_form cs) ≡ true
  unfolding is_lent tree_of
  forms_lent =
      and_both (if_some (is_tree (tree_form t)) (form_tree t ok)).0
      (and_both (has_form_lem cs (cells_width t cs fit))
      (ap₂ (λ c s. eqb (length c) (length s.properties)) cells_read tree_read ∙ counted))

  -- One call, whatever its transport, that is lent the forms, has room, and received data.
  call_served : (k : Call) (bs : List ℕ) → k.tree ≡ tree_form t → k.cells ≡ cells_form cs → k.string ≡ received bs → k.least ≤ k.room
      → serving k ≡ in_form k.form (answer t cs k.host bs)
  call_served k bs e f g room =
      serve_good k (record { lent = ap₂ is_lent e f ∙ forms_lent; roomy = room }) (ap (λ r. r.number) g)
      ∙ ap (λ s. in_form k.form (answer s (cells_in k.cells) k.host k.string.payload)) (ap seen e ∙ tree_read)
      ∙ ap (λ c. in_form k.form (answer t c k.host k.string.payload)) (ap cells_in f ∙ cells_read)
      ∙ ap (λ r. in_form k.form (answer t cs k.host r.payload)) g

  pub forms_served : ServesForms t cs
  forms_served =
      record {
        lent = forms_lent;
        tree_back = tree_read;
        cells_back = cells_read;
        serves = λ host bs sized. record {
          as_data = λ room h.
              call_served (data_call room bs host (tree_form t) (cells_form cs)) bs refl refl (if_sized-sized bs (received bs) sized) h;
          by_serial = λ address room h.
              call_served (serial_call address room (frame address bs) host (tree_form t) (cells_form cs)) bs refl refl (read_frame-frame address bs sized) h;
          by_udp = λ room h.
              call_served (udp_call room (datagram bs) host (tree_form t) (cells_form cs)) bs refl refl (read_datagram-datagram bs sized) h;
        };
      }

-- Bytes are lent exactly where they are such forms.
pub lent_exact : (tree cells : List ℕ) → Bytes cells → (is_lent tree cells ≡ true) ↔ AreForms tree cells
unfolding is_lent is_tree
lent_exact tree cells all = (forth, back)
  where
    forth : is_lent tree cells ≡ true → AreForms tree cells
    forth l =
        let is : (same tree (tree_form (seen tree)) && sound (seen tree)) ≡ true = and_left (is_tree tree) _ l in
        record {
          t = seen tree;
          cs = cells_in cells;
          tree_sound = and_right (same tree (tree_form (seen tree))) _ is;
          cells_sound_lem = cells_sound_in tree cells all l;
          tree_form_lem = same_eq tree (tree_form (seen tree)) (and_left (same tree (tree_form (seen tree))) _ is);
          cells_form_lem = lent_form tree cells l;
        }

    back : AreForms tree cells → is_lent tree cells ≡ true
    back f = ap₂ is_lent f.tree_form_lem f.cells_form_lem ∙ (forms_served f.t f.cs f.tree_sound f.cells_sound_lem).lent

pub forms_answered : FormsAnswered
forms_answered = record { served = forms_served; lent_exactly = lent_exact }
