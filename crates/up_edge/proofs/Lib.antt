mod Vars
