-- A step of the bench: a frame's data served and shown.
-- Assumes nothing.
use Rattle.std.proofs.Common.{true, Option, Some, None, Result, Ok, Err, ◌∷◌, ltb, ltb-true}
use Rattle.std.specs.Result.{result_unwrap_or}
use Rattle.protocol.specs.declared.Refusal.{Refusal}
use Rattle.protocol.specs.declared.Refusal.TheVariants.{Unsound, NoPreamble, BadPair, TooShort, TooLong, BadChecksum, OtherAddress, NoRoom, Disabled, UnknownCommand, BadParameter, NoReading, NotSaved, NotLive, NoSuchNode, NoSuchProperty, BadSheet, NotInRange, BadIdentifier, BadLength}
use Rattle.protocol.specs.Refusal.{refusal_number, length_told}
use Rattle.protocol.proofs.RefusalLaws.{refusal_some}
use Prim.Native.Nat.{ℕ, ◌<◌, ◌≤◌}
use native.Mathlib.Omega.{arith}
use native.Mathlib.Nat.{zero-add}
use mathlib.Core.Path.{◌≡◌, refl, sym, ap, ap₂, subst, ◌∙◌}
use mathlib.Core.List.{List, []}
use borrow.Author.Tests.{lt-ltb, le-ltb, eq-eqb, ne_eqb}
use lib.ListN.{length, take, drop, length-append}
use lib.Seq.{take_at}
use Rattle.protocol.specs.Numbers.{done, no_frame, room_serial, room_data}
use Rattle.protocol.specs.Frame.{Received, write_frame, if_room, if_sized, size_number}
use Rattle.protocol.specs.Buffer.{Put, Emits, over}
use Rattle.protocol.proofs.BufferLaws.{over_put, over_nil}
use Rattle.stream.specs.Feed.{FedBy, fed, Feeds, fed_number, fed_length}
use Rattle.answer.specs.Serve.{Service, Serves}
use Rattle.console.specs.Lines.{lines}
use Rattle.console.specs.Bench.{bench_address, text_room, served, serial_reply, shows, stepped, Steps}
use Rattle.console.specs.Steps.{ServesLines}

-- What was written at the front of a buffer lies in it, and is its front.
module _ (ys old : List ℕ) {new : List ℕ} {size : ℕ} (len : size ≡ length ys) (bytes : new ≡ over ys old) where
  pub front_within : size ≤ length new
  unfolding over
  front_within = omega (arith, len, ap length bytes, length-append ys (drop (length ys) old))

  pub front_is : take size new ≡ ys
  unfolding over
  front_is = ap₂ take len bytes ∙ take_at ys (drop (length ys) old) (length ys) refl

roomed : {room : ℕ} {w : Received} {old new : List ℕ} {n size : ℕ} → room_serial ≤ room → Emits (if_room room_serial room w) old n size new
    → Emits w old n size new
unfolding if_room
roomed {room} h e = rw (le-ltb room room_serial h) at e

-- The length of what was written, 0 where nothing was.
pub told_or_0 : (r : Result ℕ Refusal) {size : ℕ} → size ≡ result_unwrap_or r 0 → size ≡ length_told r
told_or_0 (Ok n) e = e
told_or_0 (Err f) e = e

-- Data served, the reply framed, and both shown; and a refusal, which has no reply.
pub lined : (s : Service) {room : ℕ} {reply reply' wire wire' cells' old new : List ℕ} {n shown size action missing m count took r : ℕ}
    → Serves s reply n size action missing cells' reply' → room_serial ≤ room
    → Emits (if_room room_serial room (write_frame bench_address (take size reply'))) wire m count wire'
    → shown ≡ n → took ≡ count → Put 0 (lines shown (take took wire')) old r new → ServesLines s old r cells' new
lined s {reply = reply} {wire = wire} {wire'} {old = old} {m = m} {count} {r = r} h room e f g p =
    let framed : Emits (write_frame bench_address s.written) wire m count wire' =
    subst (λ l. Emits (write_frame bench_address l) wire m count wire') (front_is s.written reply h.len h.bytes) (roomed room e) in
    let is = ap₂ lines (f ∙ h.number) (front_is (serial_reply s.written) wire (g ∙ framed.len) framed.bytes) in
    record {
      len = p.next ∙ zero-add (length (lines _ _)) ∙ ap length is;
      cells = h.cells;
      bytes = p.bytes ∙ over_put (lines _ _) old ∙ ap (λ l. over l old) is;
    }

no_reply : serial_reply [] ≡ []
unfolding if_sized size_number
no_reply = refl

nothing_written : (l : List ℕ) → 0 ≡ length l → l ≡ []
nothing_written [] h = refl
nothing_written (b ∷ l) h = absurd (omega (arith, h))

pub lined_refused : (s : Service) {reply reply' cells' old new : List ℕ} {n shown action missing r : ℕ}
    → Serves s reply n 0 action missing cells' reply' → shown ≡ n → Put 0 (lines shown []) old r new → ServesLines s old r cells' new
lined_refused s {old = old} h f p =
    let none : [] ≡ serial_reply s.written = sym (ap serial_reply (nothing_written s.written h.len) ∙ no_reply) in
    let is = ap₂ lines (f ∙ h.number) none in
    record {
      len = p.next ∙ zero-add (length (lines _ _)) ∙ ap length is;
      cells = h.cells;
      bytes = p.bytes ∙ over_put (lines _ _) old ∙ ap (λ l. over l old) is;
    }

-- The text has no room for the lines of a frame; it has.
pub steps_none : (room : ℕ) (state cells bytes old : List ℕ) → room < text_room
    → Steps (stepped room state cells bytes) old 0 0 state cells old
unfolding stepped
steps_none room state cells bytes old h =
    rw (lt-ltb room text_room h) (record { taken = refl; len = refl; state = refl; cells = refl; bytes = sym (over_nil old) })

pub steps_open : (room : ℕ) (state cells bytes : List ℕ) {old state' cells' new : List ℕ} {count size : ℕ} → text_room ≤ room
    → Steps (shows (fed bench_address state bytes room_data) cells) old count size state' cells' new
    → Steps (stepped room state cells bytes) old count size state' cells' new
unfolding stepped
steps_open room state cells bytes h s = rw (le-ltb room text_room h) s

-- A refusal is another number than that of no frame.
refusal_below : (e : Refusal) → ltb (refusal_number e) no_frame ≡ true
refusal_below Unsound = refl
refusal_below NoPreamble = refl
refusal_below BadPair = refl
refusal_below TooShort = refl
refusal_below TooLong = refl
refusal_below BadChecksum = refl
refusal_below OtherAddress = refl
refusal_below NoRoom = refl
refusal_below Disabled = refl
refusal_below UnknownCommand = refl
refusal_below BadParameter = refl
refusal_below NoReading = refl
refusal_below NotSaved = refl
refusal_below NotLive = refl
refusal_below NoSuchNode = refl
refusal_below NoSuchProperty = refl
refusal_below BadSheet = refl
refusal_below NotInRange = refl
refusal_below BadIdentifier = refl
refusal_below BadLength = refl

refusal_framed : (e : Refusal) → refusal_number e ≡ no_frame → ⊥
refusal_framed e h = omega (arith, ltb-true (refusal_number e) no_frame (refusal_below e), h)

-- No frame ended; a good one; a refusal.
module _ (f : FedBy) {out out' state' : List ℕ} {count : ℕ} {frame : Result (Option ℕ) Refusal}
    (h : Feeds f out (fed_number frame) count (fed_length frame) state' out') (cells old : List ℕ) where
  told : {r : Result (Option ℕ) Refusal} → frame ≡ r → Feeds f out (fed_number r) count (fed_length r) state' out'
  told e = subst (λ r. Feeds f out (fed_number r) count (fed_length r) state' out') e h

  pub data_within : {size : ℕ} → frame ≡ Ok (Some size) → size ≤ length out'
  data_within e = front_within f.payload out (told e).len (told e).bytes

  pub no_frame_lem : frame ≡ Ok None → Steps (shows f cells) old count 0 state' cells old
  unfolding shows
  no_frame_lem e =
      rw (eq-eqb f.number no_frame (sym (told e).number))
      (record { taken = h.taken; len = refl; state = h.state; cells = refl; bytes = sym (over_nil old) })

  pub good_frame : {size : ℕ} {cells' new : List ℕ} {r : ℕ} → frame ≡ Ok (Some size)
      → ServesLines (served (take size out') cells) old r cells' new → Steps (shows f cells) old count r state' cells' new
  unfolding shows
  good_frame {cells' = cells'} {new} {r} e s =
      let s' : ServesLines (served f.payload cells) old r cells' new =
      subst (λ l. ServesLines (served l cells) old r cells' new) (front_is f.payload out (told e).len (told e).bytes) s in
      let number : f.number ≡ done = sym (told e).number in
      rw (ne_eqb f.number no_frame (λ d. omega (arith, d, number)), eq-eqb f.number done number)
      (record { taken = h.taken; len = s'.len; state = h.state; cells = s'.cells; bytes = s'.bytes })

  pub bad_frame : {e : Refusal} {n : ℕ} {new : List ℕ} {r : ℕ} → frame ≡ Err e → n ≡ refusal_number e
      → Put 0 (lines n []) old r new → Steps (shows f cells) old count r state' cells new
  unfolding shows
  bad_frame {e} {n} {r = r} g m p =
      let number : refusal_number e ≡ f.number = (told g).number in
      rw (ne_eqb f.number no_frame (λ d. refusal_framed e (number ∙ d)), ne_eqb f.number done (λ d. refusal_some e (number ∙ d)))
      (record {
        taken = h.taken;
        len = p.next ∙ zero-add (length (lines n [])) ∙ ap (λ k. length (lines k [])) (m ∙ number);
        state = h.state;
        cells = refl;
        bytes = p.bytes ∙ over_put (lines n []) old ∙ ap (λ k. over (lines k []) old) (m ∙ number);
      })
