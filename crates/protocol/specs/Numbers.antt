-- The numbers of documents 01, 02 and 003, each named once.
use Rattle.std.specs.Prelude.{ℕ, ◌^◌}

-- 01, Numbers returned.
abbrev pub done : ℕ
done = 0

-- the tree breaks a rule, the cells do not fit it, or something lent has no form
abbrev pub unsound : ℕ
unsound = 1

-- no 10 02 at the front; by UDP, no four zeros
abbrev pub no_preamble : ℕ
no_preamble = 2

abbrev pub bad_pair : ℕ
bad_pair = 3

abbrev pub too_short : ℕ
too_short = 4

abbrev pub too_long : ℕ
too_long = 5

abbrev pub bad_checksum : ℕ
bad_checksum = 6

abbrev pub other_address : ℕ
other_address = 7

abbrev pub no_room : ℕ
no_room = 8

-- host functions disabled
abbrev pub disabled : ℕ
disabled = 9

abbrev pub unknown_command : ℕ
unknown_command = 10

-- a shape that is not in the table
abbrev pub bad_parameter : ℕ
bad_parameter = 11

-- op 3 without the read attribute, or live and not ready
abbrev pub no_reading : ℕ
no_reading = 12

abbrev pub not_saved : ℕ
not_saved = 13

-- a posting to a cell that does not exist or is not live
abbrev pub not_live : ℕ
not_live = 14

-- 02, section 7: no node has the path
abbrev pub no_such_node : ℕ
no_such_node = 15

-- 02, section 7: a node has the path, and no property with the index; no property at a place
abbrev pub no_such_property : ℕ
no_such_property = 16

-- 02, section 3: no sheet of this tree, or a label that cannot be written
abbrev pub bad_sheet : ℕ
bad_sheet = 17

-- 02, section 3: a number read, or a stored word written, that is out of range or of 32 bits; section 6: or off its step
abbrev pub not_in_range : ℕ
not_in_range = 18

-- 02, section 5: an address, a type or an indicator that there is not; received, not the station's identifier
abbrev pub bad_identifier : ℕ
bad_identifier = 19

-- 02, section 5: not 8 bytes received
abbrev pub bad_length : ℕ
bad_length = 20

-- House: what a call says that ended no frame. No row of a table has this number.
abbrev pub no_frame : ℕ
no_frame = 255

-- House: what a call says that leaves no action to be taken. No property has this place.
abbrev pub no_action : ℕ
no_action = 255

-- 003, section 2: the characters of a frame.
abbrev pub STX : ℕ
STX = 0x02

abbrev pub ETX : ℕ
ETX = 0x03

abbrev pub DLE : ℕ
DLE = 0x10

-- 003, section 4: the command of PDI, and the reply codes.
abbrev pub PDI : ℕ
PDI = 0xB4

-- never sent
abbrev pub BUSY : ℕ
BUSY = 0x53

abbrev pub ERROR : ℕ
ERROR = 0x54

abbrev pub ACK : ℕ
ACK = 0x55

abbrev pub DISABLED : ℕ
DISABLED = 0x57

abbrev pub NAK : ℕ
NAK = 0x58

abbrev pub ILLEGAL : ℕ
ILLEGAL = 0x59

-- 003, section 5: the operations of PDI.
abbrev pub op_detect : ℕ
op_detect = 0

abbrev pub op_node : ℕ
op_node = 1

abbrev pub op_record : ℕ
op_record = 2

abbrev pub op_read : ℕ
op_read = 3

abbrev pub op_write : ℕ
op_write = 4

abbrev pub op_write_extended : ℕ
op_write_extended = 5

-- 003, 5.3: record types.
abbrev pub standard : ℕ
standard = 1

abbrev pub enumeration : ℕ
enumeration = 2

-- 003, 5.3: attribute and format bits, by their place in the number.
abbrev pub bit_read : ℕ
bit_read = 0

abbrev pub bit_write : ℕ
bit_write = 1

abbrev pub bit_live : ℕ
bit_live = 13

abbrev pub bit_signed : ℕ
bit_signed = 15

-- 02, section 6: format bits 11 to 8 hold the step code: the lowest of them, and how many there are.
abbrev pub bit_step : ℕ
bit_step = 8

abbrev pub step_bits : ℕ
step_bits = 4

-- the last code that means a step
abbrev pub last_step_code : ℕ
last_step_code = 11

-- 003, 5.4: the status of a read that succeeded.
abbrev pub status_ok : ℕ
status_ok = 0x01

-- 003, 5.5: the save byte.
abbrev pub save_failed : ℕ
save_failed = 0x00

abbrev pub save_done : ℕ
save_done = 0x01

abbrev pub save_none : ℕ
save_none = 0x02

-- The limits of document 01, all of them house rules.
abbrev pub max_data : ℕ
max_data = 256

-- address, data and checksum
abbrev pub max_content : ℕ
max_content = 258

abbrev pub room_data : ℕ
room_data = 256

abbrev pub room_udp : ℕ
room_udp = 260

abbrev pub room_serial : ℕ
room_serial = 520

-- how long a path may be, and how deep a node may stand
abbrev pub max_depth : ℕ
max_depth = 16

abbrev pub max_nodes : ℕ
max_nodes = 64

abbrev pub max_properties : ℕ
max_properties = 128

abbrev pub max_name : ℕ
max_name = 23

-- a name or label with its zero
abbrev pub name_room : ℕ
name_room = 24

-- the bytes of a unit or of all options, zeros included
abbrev pub max_texts : ℕ
max_texts = 160

abbrev pub max_option : ℕ
max_option = 15

abbrev pub first_character : ℕ
first_character = 0x20

abbrev pub last_character : ℕ
last_character = 0x7E

abbrev pub byte_end : ℕ
byte_end = 2 ^ 8

abbrev pub half_end : ℕ
half_end = 2 ^ 16

abbrev pub word_end : ℕ
word_end = 2 ^ 32
