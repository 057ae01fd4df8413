pub mod SurfaceGuests
